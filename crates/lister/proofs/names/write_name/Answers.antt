-- The number alone, or the number and the keys.
use Rattle.std.proofs.Common.{◌≡◌, true, false, sym}
use Rattle.text.proofs.TextLaws.{wrote_as}
use Rattle.text.proofs.RoomLaws.{fits_as}
use Rattle.lister.proofs.KeyLaws.{plain_text, keyed_text_lem}
use Rattle.lister.proofs.names.write_name.Goals as goal

pub write_number-requires : goal.write_number-requires
write_number-requires c =
    let p : c.is_plain.result ≡ true = cc in
    fits_as (sym (plain_text c.args.x c.is_plain.ensures p)) c.requires

pub returns-then-is_plain : goal.returns-then-is_plain
returns-then-is_plain c = wrote_as (plain_text c.args.x c.is_plain.ensures c.if-is_plain.true) c.write_number.ensures

pub write_keyed-requires : goal.write_keyed-requires
write_keyed-requires c =
    let p : c.is_plain.result ≡ false = cc in
    fits_as (sym (keyed_text_lem c.args.x c.is_plain.ensures p)) c.requires

pub returns : goal.returns
returns c =
    let p : c.is_plain.result ≡ false = cc in
    wrote_as (keyed_text_lem c.args.x c.is_plain.ensures p) c.write_keyed.ensures
