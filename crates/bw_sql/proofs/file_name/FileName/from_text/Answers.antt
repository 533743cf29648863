use Rattle.std.specs.Str.{is_utf8}
use Rattle.std.proofs.lemmas.Bool.{and_parts}
use Rattle.std.proofs.lemmas.Str.{IsUtf8-from_is_utf8}
use Rattle.bw_sql.proofs.file_name.FileName.from_text.Goals as goal

pub unwrap-name-requires : goal.unwrap-name-requires
unwrap-name-requires c =
    let says = c.in_ok-says.says.items in
    c.from_utf8.ensures.succeeds (IsUtf8-from_is_utf8 says (and_parts _ (is_utf8 says) c.in_ok-says.ensures.good).1)
