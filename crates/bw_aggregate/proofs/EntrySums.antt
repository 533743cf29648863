-- Sums of values by the entries of a dictionary.
use Rattle.std.proofs.Common.{Bool, List, None, Option, Some, [], ap, arith, false, get_or, if◌then◌else◌, length, map, pos, refl, subst, suc, sym, true, zero, ℕ, ℤ, ◌&&◌, ◌+◌, ◌+ℤ◌, ◌<◌, ◌≡◌, ◌≤◌, ◌∙◌, ◌∷◌}
use Rattle.std.proofs.lemmas.Int.{ints}
use Rattle.std.proofs.lemmas.List.{length-map, take_all}
use Rattle.std.proofs.lemmas.List.Elements.{All-cons, All-head, All-nil, All-tail}
use Rattle.std.specs.List.{items_where_true}
use Rattle.std.specs.Prelude.{All, is_some, unwrap_or}
use Rattle.bw_mask.specs.Masks.{bit_of}
use Rattle.bw_code.specs.Encodings.{IsEncoding}
use Rattle.bw_code.specs.declared.encoding.Encoding.{Encoding}
use Rattle.bw_code.specs.declared.encoding.Encoding.TheVariants as by
use Rattle.bw_code.proofs.Codes.{code_back}
use Rattle.bw_code.proofs.Entries.{entry_is}
use Rattle.bw_column.specs.Codes.{IsCoded, code_for}
use Rattle.bw_column.specs.Values.{value_at}
use Rattle.bw_column.proofs.Rows.{code_is}
use Rattle.bw_cells.specs.SetFunctions.{known, total}
use Rattle.bw_aggregate.specs.Chosen.{value_in}
use Rattle.bw_aggregate.specs.Entries.{AreFound, AreSummed}
use Rattle.bw_aggregate.specs.Runs.{value_total}
use Rattle.bw_aggregate.proofs.KnownValues.{code_of_row, coded_all}
use Rattle.bw_aggregate.proofs.Sums.{total_more}

-- one row of a run more
pub entry_more : (need : List Bool) (all : List (Option ℤ)) (at : ℕ) (entries : List ℤ) (codes : List ℕ) (word : ℕ) → AreSummed need all at entries codes word → (i : ℕ) (v sum : ℤ) → i < length codes
    → v ≡ (if bit_of word i then get_or entries (get_or codes i 0) (pos 0) else pos 0)
    → value_total need all (at + i) ≡ value_total need all at +ℤ sum → value_total need all (at + (i + 1)) ≡ value_total need all at +ℤ (sum +ℤ v)
entry_more need all at entries codes word summed i v sum h value before =
    let place : at + (i + 1) ≡ suc (at + i) = omega arith in
    let more = total_more need all (at + i) (omega (arith, summed.inside, summed.same, h)) (omega (arith, summed.inside, h)) in
    let here : value_in need all (at + i) ≡ v = summed.each i h ∙ sym value in
    ap (value_total need all) place ∙ omega (arith, ints, more, here, before)

module _ (entries : List ℤ) (sound : IsEncoding (by.Dictionary entries)) where
  entry_low : (x : ℤ) → IsCoded (by.Dictionary entries) (Some x) → code_for (by.Dictionary entries) (Some x) < length entries
  entry_low x coded = (entry_is entries x (code_for (by.Dictionary entries) (Some x)) sound.ascending (code_is (by.Dictionary entries) sound x coded)).within

  -- where a value is chosen there is an entry
  pub entries_there : (rows : List Bool) (values : List (Option ℤ)) → All (IsCoded (by.Dictionary entries)) values → 0 < length (known (items_where_true rows values)) → 0 < length entries
  entries_there [] values all some = absurd (omega (arith, some))
  entries_there (b ∷ rows) [] all some = absurd (omega (arith, some))
  entries_there (true ∷ rows) (Some x ∷ values) all some =
      let low = entry_low x (All-head (IsCoded (by.Dictionary entries)) (Some x) values all) in omega (arith, low)
  entries_there (true ∷ rows) (None ∷ values) all some = entries_there rows values (All-tail (IsCoded (by.Dictionary entries)) None values all) some
  entries_there (false ∷ rows) (v ∷ values) all some = entries_there rows values (All-tail (IsCoded (by.Dictionary entries)) v values all) some

  low_of : (value : Option ℤ) → 0 < length entries → IsCoded (by.Dictionary entries) value → code_for (by.Dictionary entries) value < length entries
  low_of None some coded = some
  low_of (Some x) some coded = entry_low x coded

  -- each code is the place of an entry, that of a null too
  pub codes_found : (values : List (Option ℤ)) → 0 < length entries → All (IsCoded (by.Dictionary entries)) values → All (λ c. c < length entries) (map (code_for (by.Dictionary entries)) values)
  codes_found [] some all = All-nil (λ c. c < length entries)
  codes_found (v ∷ values) some all =
      All-cons (λ c. c < length entries) (code_for (by.Dictionary entries) v) (map (code_for (by.Dictionary entries)) values)
      (low_of v some (All-head (IsCoded (by.Dictionary entries)) v values all)) (codes_found values some (All-tail (IsCoded (by.Dictionary entries)) v values all))

  -- and each value is the entry of its code
  pub are_found : (values : List (Option ℤ)) → All (IsCoded (by.Dictionary entries)) values → AreFound values entries (map (code_for (by.Dictionary entries)) values) (λ r. is_some (value_at values r))
  are_found values all r h = here (value_at values r) refl
    where
      here : (value : Option ℤ) → value_at values r ≡ value → value_at values r ≡ (if is_some (value_at values r) then Some (get_or entries (get_or (map (code_for (by.Dictionary entries)) values) r 0) (pos 0)) else None)
      here None is = rw is refl
      here (Some x) is =
          let coded = coded_all (by.Dictionary entries) sound values all r x is in
          let back = code_back (by.Dictionary entries) sound x (code_for (by.Dictionary entries) (Some x)) coded in
          rw (code_of_row (by.Dictionary entries) values r, is) (ap Some (sym back))

-- the entries of a run's rows that are in and known are their values
pub run_summed : (rows : List Bool) (all : List (Option ℤ)) (entries : List ℤ) (codes whole : List ℕ) (known : ℕ → Bool) (at word : ℕ) → length rows ≡ length all → at + length codes ≤ length all → AreFound all entries whole known
    → ((i : ℕ) → i < length codes → get_or whole (at + i) 0 ≡ get_or codes i 0) → ((i : ℕ) → i < length codes → bit_of word i ≡ (get_or rows (at + i) false && known (at + i)))
    → AreSummed rows all at entries codes word
run_summed rows all entries codes whole known at word same inside found read bits = record {
  same = same;
  inside = inside;
  each = λ i h. rw (bits i h, found (at + i) (omega (arith, inside, h)), read i h) (choice (get_or rows (at + i) false) (known (at + i)) (get_or entries (get_or codes i 0) (pos 0)));
}
  where
    choice : (in_row there : Bool) (x : ℤ) → unwrap_or (if in_row then (if there then Some x else None) else None) (pos 0) ≡ (if in_row && there then x else pos 0)
    choice true true x = refl
    choice true false x = refl
    choice false there x = refl

-- a run of which no row is in
pub entries_none : (need : List Bool) (all : List (Option ℤ)) (at n : ℕ) → length need ≡ length all → at + n ≤ length all → ((i : ℕ) → i < n → value_in need all (at + i) ≡ pos 0)
    → value_total need all (at + n) ≡ value_total need all at +ℤ pos 0
entries_none need all at zero same inside none = let e : at + zero ≡ at = omega arith in ap (value_total need all) e ∙ omega (arith, ints)
entries_none need all at (suc n) same inside none =
    let place : at + suc n ≡ suc (at + n) = omega arith in
    let more = total_more need all (at + n) (omega (arith, inside, same)) (omega (arith, inside)) in
    let rest = entries_none need all at n same (omega (arith, inside)) (λ i h. none i (omega (arith, h))) in
    ap (value_total need all) place ∙ omega (arith, ints, more, none n (omega arith), rest)

module _ (e : Encoding) (entries : List ℤ) (is : e ≡ by.Dictionary entries) (sound : IsEncoding e) (values : List (Option ℤ)) (coded : All (IsCoded e) values) (rows : List Bool) (some : 0 < length (known (items_where_true rows values))) where
  own_sound : IsEncoding (by.Dictionary entries)
  own_sound = subst IsEncoding is sound

  own_coded : All (IsCoded (by.Dictionary entries)) values
  own_coded = subst (λ (d : Encoding). All (IsCoded d) values) is coded

  pub all_found : (codes : List ℕ) → codes ≡ map (code_for e) values → All (λ c. c < length entries) codes
  all_found codes codes_is =
      subst (All (λ c. c < length entries)) (sym (codes_is ∙ ap (λ (d : Encoding). map (code_for d) values) is))
      (codes_found entries own_sound values (entries_there entries own_sound rows values own_coded some) own_coded)

  -- so their sum is that of the chosen values
  pub total_is : (codes : List ℕ) → codes ≡ map (code_for e) values → length rows ≡ length values → (nonnull : ℕ → Bool) → ((r : ℕ) → nonnull r ≡ is_some (value_at values r)) → (sum : ℤ)
      → ((all : List (Option ℤ)) → length all ≡ length codes → AreFound all entries codes nonnull → sum ≡ value_total rows all (length codes)) → sum ≡ total (known (items_where_true rows values))
  total_is codes codes_is same nonnull known_is sum summed =
      let own_codes : codes ≡ map (code_for (by.Dictionary entries)) values = codes_is ∙ ap (λ (d : Encoding). map (code_for d) values) is in
      let long : length values ≡ length codes = sym (ap length codes_is ∙ length-map values (code_for e)) in
      let found : AreFound values entries codes nonnull = λ r h. rw (known_is r, own_codes) (are_found entries own_sound values own_coded r h) in
      summed values long found ∙ rw (take_all (length codes) rows (omega (arith, same, long)), take_all (length codes) values (omega (arith, long))) refl
