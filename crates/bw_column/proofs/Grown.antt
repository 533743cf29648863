-- A dictionary that takes in other values: its entries, and the codes there.
use Rattle.std.proofs.Common.{[], Bool, List, None, Option, Some, ap, arith, get_or, inl, inr, length, map, pos, refl, sym, ℕ, ℤ, ◌++◌, ◌<◌, ◌≡◌, ◌∙◌}
use Rattle.std.specs.List.{All}
use Rattle.std.specs.Prelude.{Contains, unwrap_or, ◌↔◌}
use Rattle.std.proofs.lemmas.List.{get_or-map, get_or_default, length-map}
use Rattle.std.proofs.lemmas.List.Elements.{Contains-append_cases, Contains-append_left, Contains-append_right, Contains-get_or, filter_map-append}
use Rattle.bw_cells.proofs.Known.{known_at}
use Rattle.bw_code.specs.Ascending.{IsAscending}
use Rattle.bw_code.specs.Encodings.{AreCodes, AreDistinct, HasCode, IsFit, code_of, kind_of}
use Rattle.bw_code.specs.declared.encoding.Encoding.{Encoding}
use Rattle.bw_code.specs.declared.encoding.Encoding.TheVariants as by
use Rattle.bw_code.specs.declared.kind.Kind.TheVariants as kinds
use Rattle.bw_code.proofs.Entries.{entry_at}
use Rattle.bw_code.proofs.Lists.{made_is}
use Rattle.bw_dictionary.specs.Merging.{AreStandingCodes, IsUnion, StandsAt, StandsIn}
use Rattle.bw_dictionary.specs.Moving.{moved_place}
use Rattle.bw_dictionary.specs.Ranking.{place_of}
use Rattle.bw_dictionary.proofs.Encoded.{cell_of}
use Rattle.bw_column.specs.Codes.{IsCoded, code_for, codes_for}
use Rattle.bw_column.specs.Moves.{IsMoved}
use Rattle.bw_column.specs.Preparing.{IsEncodingFor}
use Rattle.bw_column.specs.Values.{known}
use Rattle.bw_column.proofs.Known.{all_coded}

-- the encoding of a column is told of its values and encoding, under whatever names
pub for_same : (own again values : List (Option ℤ)) (a b e : Encoding) → again ≡ own → b ≡ a → IsEncodingFor own a values e → IsEncodingFor again b values e
for_same own again values a b e p q for = rw (p, q) for

-- no values, and no entries
pub none_distinct : AreDistinct [] []
none_distinct = record { ascending = λ i j low h. absurd (omega arith); same = λ x. (λ h. h, λ h. h) }

-- all values of a dictionary's list have codes
pub distinct_coded : (values entries : List ℤ) → AreDistinct values entries → All (Contains entries) values
distinct_coded values entries are k d h = (are.same (get_or values k d)).1 (Contains-get_or values k d h)

pub fit_coded : (values : List ℤ) (e : Encoding) → kind_of e ≡ kinds.Dictionary → IsFit values e → All (HasCode e) values
fit_coded values (by.Offset o) is fits = cc
fit_coded values (by.Dictionary entries) is fits = distinct_coded values entries fits

-- the place of each cell's integer among the distinct ones
module _ (cells : List (Option ℤ)) (new : List ℤ) (distinct : AreDistinct (known cells) new) where
  place_is : (i : ℕ) (x : ℤ) → get_or cells i None ≡ Some x → (p : ℕ) × (p < length new) × (get_or new p (pos 0) ≡ x) × (place_of new (Some x) ≡ p)
  place_is i x e =
      let there = (distinct.same x).1 (known_at cells i x e) in
      let is : get_or new there.0 (pos 0) ≡ x = get_or_default new there.0 (pos 0) x there.1 ∙ there.2 in
      let code = entry_at new x there.0 distinct.ascending there.1 is in
      (there.0, there.1, is, ap (λ c. unwrap_or c 0) code)

  -- a table that has the code of each
  pub codes_by_table : (e : Encoding) (table : List ℕ) → AreCodes (code_of e) new table → map (moved_place table new) cells ≡ codes_for e cells
  codes_by_table e table are =
      let f = λ (k : ℕ). code_for e (get_or cells k None) in
      made_is (length cells) f (map (moved_place table new) cells) 0 (length-map cells (moved_place table new)) (λ k h. get_or-map (moved_place table new) cells k None 0 h ∙ at k)
      ∙ sym (made_is (length cells) f (codes_for e cells) 0 (length-map cells (code_for e)) (λ k h. get_or-map (code_for e) cells k None 0 h))
    where
      at : (k : ℕ) → moved_place table new (get_or cells k None) ≡ code_for e (get_or cells k None)
      at k = each (get_or cells k None) refl
        where
          each : (cell : Option ℤ) → get_or cells k None ≡ cell → moved_place table new cell ≡ code_for e cell
          each None is = refl
          each (Some x) is =
              let p = place_is k x is in
              let code = are.each p.0 p.1 in
              ap (λ q. get_or table q 0) p.3 ∙ sym (ap (λ c. unwrap_or c 0) (ap (code_of e) (sym p.2) ∙ code))

  -- where the entries of another dictionary have all of them, each cell has a code there, and the other way round
  pub cells_coded : (entries : List ℤ) → All (Contains entries) new → All (IsCoded (by.Dictionary entries)) cells
  cells_coded entries all = all_coded (by.Dictionary entries) cells (λ k d h.
      let at = (distinct.same (get_or (known cells) k d)).1 (Contains-get_or (known cells) k d h) in
      let here = all at.0 (get_or (known cells) k d) at.1 in
      rw at.2 at here)

  pub entries_coded : (entries : List ℤ) → All (IsCoded (by.Dictionary entries)) cells → All (Contains entries) new
  entries_coded entries coded k d h =
      let there = (distinct.same (get_or new k d)).0 (Contains-get_or new k d h) in
      let cell = cell_of cells (get_or new k d) there.0 there.1 there.2 in
      let here : IsCoded (by.Dictionary entries) (get_or cells cell.0 None) = coded cell.0 None cell.1 in
      rw cell.2 at here

-- where a list is distinct values, all of it stands
pub all_stand : (values new : List ℤ) (stands : List Bool) → AreDistinct values new → ((m : ℕ) → m < length new → StandsAt stands m) → (x : ℤ) → (StandsIn new stands x ↔ Contains values x)
all_stand values new stands distinct all x = (
  λ h. (distinct.same x).0 (h.0, h.1, get_or_default new h.0 x (pos 0) h.1 ∙ h.3),
  λ h. let there = (distinct.same x).1 h in (there.0, there.1, all there.0 there.1, get_or_default new there.0 (pos 0) x there.1 ∙ there.2),
)

-- nothing stands where there is nothing
pub none_stands : (x : ℤ) → (StandsIn [] [] x ↔ Contains [] x)
none_stands x = (λ h. absurd (omega (arith, h.1)), λ h. absurd (omega (arith, h.1)))

-- the entries of a dictionary that stand are the values of some rows
module _ (entries : List ℤ) (stands : List Bool) (own : List (Option ℤ)) (stand : (x : ℤ) → (StandsIn entries stands x ↔ Contains (known own) x)) where
  -- where another dictionary has all that stand, each row has a code there, and the other way round
  pub standing_coded : (others : List ℤ) → ((x : ℤ) → StandsIn entries stands x → Contains others x) → All (IsCoded (by.Dictionary others)) own
  standing_coded others all = all_coded (by.Dictionary others) own (λ k d h. all (get_or (known own) k d) ((stand (get_or (known own) k d)).1 (Contains-get_or (known own) k d h)))

  pub coded_standing : (others : List ℤ) → All (IsCoded (by.Dictionary others)) own → (x : ℤ) → StandsIn entries stands x → Contains others x
  coded_standing others coded x h =
      let there = (stand x).0 h in
      let cell = cell_of own x there.0 there.1 there.2 in
      let here : IsCoded (by.Dictionary others) (get_or own cell.0 None) = coded cell.0 None cell.1 in
      rw cell.2 at here

  -- a table with the codes of those that stand has that of each row
  pub standing_moved : IsAscending entries → (e : Encoding) (table : List ℕ) → AreStandingCodes (code_of e) entries stands table → All (IsMoved (by.Dictionary entries) e table) own
  standing_moved up e table are k d h = each (get_or own k None) refl
    where
      each : (value : Option ℤ) → get_or own k None ≡ value → IsMoved (by.Dictionary entries) e table (get_or own k d)
      each None is = let same : get_or own k d ≡ None = get_or_default own k d None h ∙ is in rw same tt
      each (Some x) is =
          let same : get_or own k d ≡ Some x = get_or_default own k d None h ∙ is in
          let m = (stand x).1 (known_at own k x is) in
          let code : code_for (by.Dictionary entries) (Some x) ≡ m.0 = ap (λ c. unwrap_or c 0) (entry_at entries x m.0 up m.1 m.3) in
          let there : code_of e x ≡ Some (get_or table m.0 0) = ap (code_of e) (sym m.3) ∙ are.each m.0 m.1 m.2 in
          let moved : IsMoved (by.Dictionary entries) e table (Some x) = rw code (omega (arith, m.1, are.count), there) in
          rw same moved

-- the entries of two dictionaries that stand, merged, fit the values of both
pub union_fits : (old : List ℤ) (old_stands : List Bool) (new : List ℤ) (new_stands : List Bool) (union : List ℤ) (moves places : List ℕ) → IsUnion old old_stands new new_stands union moves places → (own cells : List (Option ℤ))
    → ((x : ℤ) → (StandsIn old old_stands x ↔ Contains (known own) x)) → ((x : ℤ) → (StandsIn new new_stands x ↔ Contains (known cells) x)) → AreDistinct (known (own ++ cells)) union
union_fits old old_stands new new_stands union moves places put own cells stand new_stand = record {
  ascending = put.ascending;
  same = λ x. (forth x, back x);
}
  where
    both : known (own ++ cells) ≡ known own ++ known cells
    both = filter_map-append (λ value. value) own cells

    forth : (x : ℤ) → Contains union x → Contains (known (own ++ cells)) x
    forth x h = rw both (elim ((put.members x).0 h) [
      | inl was ↦ Contains-append_left (known own) (known cells) x ((stand x).0 was)
      | inr new_one ↦ Contains-append_right (known own) (known cells) x ((new_stand x).0 new_one)
    ])

    back : (x : ℤ) → Contains (known (own ++ cells)) x → Contains union x
    back x h = let in_both : Contains (known own ++ known cells) x = rw both at h in
        (put.members x).1 (elim (Contains-append_cases (known own) (known cells) x in_both) [
          | inl was ↦ inl ((stand x).1 was)
          | inr new_one ↦ inr ((new_stand x).1 new_one)
        ])

-- where all of a list stands, its codes are those of each
pub all_codes : (e : Encoding) (new : List ℤ) (stands : List Bool) (codes : List ℕ) → ((m : ℕ) → m < length new → StandsAt stands m) → AreStandingCodes (code_of e) new stands codes → AreCodes (code_of e) new codes
all_codes e new stands codes all are = record { count = are.count; each = λ i h. are.each i h (all i h) }
