-- A change leaves the kind of each column's encoding, and its layout, unless another is chosen.
use Rattle.std.proofs.Common.{List, None, Option, Some, [], ap, arith, get_or, length, map, refl, subst, sym, ℕ, ℤ, ◌<◌, ◌∙◌, ◌≡◌}
use Rattle.std.specs.List.{All}
use Rattle.std.specs.Prelude.{⊤}
use Rattle.std.proofs.lemmas.List.{get_or-map, length-map, same_lists}
use Rattle.bw_mask.specs.Masks.{MaskRows}
use Rattle.bw_code.specs.Encodings.{kind_of}
use Rattle.bw_code.specs.declared.encoding.Encoding.{Encoding}
use Rattle.bw_code.specs.declared.encoding.Encoding.TheVariants as encodings
use Rattle.bw_code.specs.declared.kind.Kind.{Kind}
use Rattle.bw_code.specs.declared.kind.Kind.TheVariants as kinds
use Rattle.bw_column.specs.Codes.{IsCoded}
use Rattle.bw_column.specs.Preparing.{IsEncodingFor}
use Rattle.bw_table.specs.Changes.{AreAppended, AreRebuilt, AreUpdated, IsEncodingWith, set_of}
use Rattle.bw_table.specs.Slots.{SlotsView}
use Rattle.bw_table.specs.declared.setting.SetTo.{SetTo}

abbrev is_offset : Kind → Type 0
is_offset kinds.Offset = ⊤
is_offset kinds.Dictionary = ⊥

two_kinds : kinds.Offset ≡ kinds.Dictionary → ⊥
two_kinds e = subst is_offset e tt

-- of two ways to the same kind, one is open
one_kind : (a b : Kind) (X : Type 0) → (X → a ≡ b) → ((X → ⊥) → a ≡ b) → a ≡ b
one_kind kinds.Offset kinds.Offset X if_x if_not = refl
one_kind kinds.Dictionary kinds.Dictionary X if_x if_not = refl
one_kind kinds.Offset kinds.Dictionary X if_x if_not = if_not (λ x. absurd (two_kinds (if_x x)))
one_kind kinds.Dictionary kinds.Offset X if_x if_not = if_not (λ x. absurd (two_kinds (sym (if_x x))))

pub kind_kept : (old : List (Option ℤ)) (own : Encoding) (values : List (Option ℤ)) (e : Encoding) → IsEncodingFor old own values e → kind_of e ≡ kind_of own
kind_kept old own values e is = one_kind (kind_of e) (kind_of own) (All (IsCoded own) values) (λ all. ap kind_of (is.stays all)) (λ lacks. (is.anew lacks).1)

no_entries : Encoding
no_entries = encodings.Dictionary []

kinds_by : (new old : List Encoding) → length new ≡ length old → ((k : ℕ) → k < length old → kind_of (get_or new k no_entries) ≡ kind_of (get_or old k no_entries)) → map kind_of new ≡ map kind_of old
kinds_by new old count each =
    same_lists (map kind_of new) (map kind_of old) (length-map new kind_of ∙ count ∙ sym (length-map old kind_of)) (λ k d l.
    let low : k < length old = omega (arith, l, length-map new kind_of, count) in
    get_or-map kind_of new k no_entries d (omega (arith, low, count)) ∙ each k low ∙ sym (get_or-map kind_of old k no_entries d low))

module _ (old new : SlotsView) where
  pub appended_kinds : (rows : List (List (Option ℤ))) → AreAppended old rows new → map kind_of new.encodings ≡ map kind_of old.encodings
  appended_kinds rows are = kinds_by new.encodings old.encodings are.width (λ k l. kind_kept _ _ _ _ (are.encodings_are k no_entries no_entries l))

  with_kind : (rows : List (List (Option ℤ))) (to : Option SetTo) (values : List (Option ℤ)) (own e : Encoding) → IsEncodingWith rows to values own e → kind_of e ≡ kind_of own
  with_kind rows None values own e is = ap kind_of is
  with_kind rows (Some to) values own e is = kind_kept _ _ _ _ is

  pub updated_kinds : (found : MaskRows) (sets : List (ℕ × SetTo)) → AreUpdated found sets old new → map kind_of new.encodings ≡ map kind_of old.encodings
  updated_kinds found sets are = kinds_by new.encodings old.encodings are.width (λ k l. with_kind _ (set_of sets k) _ _ _ (are.encodings_are k no_entries no_entries l))

  pub rebuilt_kinds : AreRebuilt [] old new → map kind_of new.encodings ≡ map kind_of old.encodings
  rebuilt_kinds are = kinds_by new.encodings old.encodings are.encodings_count (λ k l. (are.encodings_are k no_entries l).kind)

  pub rebuilt_layouts : AreRebuilt [] old new → new.layouts ≡ old.layouts
  rebuilt_layouts are = same_lists new.layouts old.layouts are.layouts_count (λ k d l. are.layouts_are k d (omega (arith, l, are.layouts_count)))
