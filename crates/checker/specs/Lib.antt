pub mod OnTable
