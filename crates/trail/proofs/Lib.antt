pub mod FindingsLaws
