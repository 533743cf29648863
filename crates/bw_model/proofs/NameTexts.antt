-- What the bytes of a name are.
use Rattle.std.proofs.Common.{◌≡◌, ◌≢◌, ℕ, true, false, ◌&&◌, List, [], ◌∷◌, codes, length, is_none, nat_le, refl, ap, sym, ◌∙◌, arith}
use Rattle.std.specs.Char.{is_ascii_uppercase}
use Rattle.std.specs.List.{list_all}
use Rattle.std.proofs.lemmas.Bool.{true≢false}
use Rattle.std.proofs.lemmas.Grind.{common_steps}
use Rattle.bw_sql.specs.Names.{IsName, begins_with_letter, is_name, is_name_byte, keyword_of, reserved_words}
use Rattle.bw_model.proofs.Cuts.{Between, Each, each_passes}
use Rattle.bw_model.proofs.Passing.{two}

within : (b : ℕ) → is_name_byte b ≡ true → Between 48 95 b
within b e = (grind (arith, common_steps), grind (arith, common_steps))

letter : (b : ℕ) → is_ascii_uppercase b ≡ true → Between 65 90 b
letter b e = (grind (arith, common_steps), grind (arith, common_steps))

pub record NameText (name : List ℕ) : Type 0 where
  pub bytes : Each (Between 48 95) name
  pub first : (b : ℕ) (rest : List ℕ) → name ≡ b ∷ rest → Between 65 90 b
  pub some : name ≢ []
  pub not_null : name ≢ codes "NULL"
  pub not_table : name ≢ codes "TABLE"

begins : (name : List ℕ) (b : ℕ) (rest : List ℕ) → begins_with_letter name ≡ true → name ≡ b ∷ rest → is_ascii_uppercase b ≡ true
begins [] b rest e is = cc
begins (c ∷ name) b rest e is = let same : c ≡ b = cc in ap is_ascii_uppercase (sym same) ∙ e

isnt_empty : (name : List ℕ) → begins_with_letter name ≡ true → name ≢ []
isnt_empty [] e is = true≢false (sym e)
isnt_empty (c ∷ name) e is = cc

null_is_no_name : is_name (codes "NULL") ≡ false
unfolding is_name keyword_of reserved_words
null_is_no_name = refl

table_is_no_name : is_name (codes "TABLE") ≡ false
unfolding is_name keyword_of reserved_words
table_is_no_name = refl

pub name_text : (name : List ℕ) → IsName name → NameText name
unfolding is_name
name_text name is =
    let a = two (begins_with_letter name && list_all is_name_byte name && nat_le (length name) 128) (is_none (keyword_of name)) is in
    let b = two (begins_with_letter name && list_all is_name_byte name) (nat_le (length name) 128) a.0 in
    let c = two (begins_with_letter name) (list_all is_name_byte name) b.0 in
    record {
      bytes = each_passes is_name_byte (Between 48 95) within name c.1;
      first = λ b rest e. letter b (begins name b rest c.0 e);
      some = isnt_empty name c.0;
      not_null = λ e. true≢false (sym is ∙ ap is_name e ∙ null_is_no_name);
      not_table = λ e. true≢false (sym is ∙ ap is_name e ∙ table_is_no_name);
    }
