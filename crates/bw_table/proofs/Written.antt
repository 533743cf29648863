-- What the sets of an update make ready and do, column by column.
use Rattle.std.proofs.Common.{◌≡◌, ◌≢◌, ℕ, ℤ, ◌+◌, ◌<◌, ◌≤◌, ◌==◌, false, List, [], ◌∷◌, ◌++◌, drop, take, length, get_or, set, refl, sym, ap, subst, ◌∙◌, inl, inr, arith, length-set, count_by, replicate, Option, Some, None}
use Rattle.std.specs.List.{All, AllPairs}
use Rattle.std.proofs.lemmas.Bool.{cases_Bool, cases_eq, cases_lt, eq-eqb, eqb-true}
use Rattle.std.proofs.lemmas.List.{drop_more, get_or-drop, get_or_default, length-drop, get_or-set_same, get_or-set_other, get_or_push, get_or_append_left, length_push, length-map}
use Rattle.std.proofs.lemmas.List.Elements.{All-head, All-tail}
use Rattle.std.proofs.lemmas.Map.Entries.{lookup_head, lookup_tail}
use Rattle.bw_mask.specs.Masks.{MaskRows, len}
use Rattle.bw_code.proofs.Lists.{made_len}
use Rattle.bw_column.specs.Codes.{IsCoded}
use Rattle.bw_column.specs.Columns.{ColumnView, Keeps}
use Rattle.bw_column.specs.Copies.{CanCopy, FitsAfter, step_alone}
use Rattle.bw_column.specs.Preparing.{IsEncodingFor, IsPreparedFor, Preparation}
use Rattle.bw_column.specs.declared.copying.CopiedCodes.{CopiedCodes}
use Rattle.bw_column.specs.declared.copying.CopiedCodes.TheVariants.{Distances, Moved}
use Rattle.bw_column.specs.declared.kept.KeptCodes.{KeptCodes}
use Rattle.bw_column.specs.declared.step.Step.{Step}
use Rattle.bw_column.specs.declared.step.Step.TheVariants.{Raise, Replace, Shift, Stay}
use Rattle.bw_column.specs.Places.{chosen_values, overwritten, put_at}
use Rattle.bw_column.proofs.Ordered.{all_chosen}
use Rattle.bw_column.proofs.RaisedHere.{can_raise_still}
use Rattle.bw_table.specs.Changes.{places, set_of, value_for}
use Rattle.bw_table.specs.Slots.{row_of}
use Rattle.bw_table.specs.Halves.{AllKept}
use Rattle.bw_table.specs.Sets.{AllSet, AreReadyFor, CanApply, IsCopied, IsPreparedIn, IsReady, IsReadyFor, IsSet, IsWritten, IsWrittenIn, changed, gathered, prepared_values}
use Rattle.bw_table.specs.declared.setting.Change.{Change}
use Rattle.bw_table.specs.declared.setting.Change.TheVariants.{Copy, Take}
use Rattle.bw_table.specs.declared.setting.SetTo.{SetTo}
use Rattle.bw_table.specs.declared.setting.SetTo.TheVariants.{Column}
use Rattle.bw_table.specs.declared.taking.PreparedValues.{PreparedValues}
use Rattle.bw_table.specs.declared.taking.PreparedValues.TheVariants as ready
use Rattle.bw_table.proofs.Places.{count_places, gathered_column, map_alike}
use Rattle.bw_table.proofs.Readied.{one_less, popped}
use Rattle.bw_table.proofs.Across.{kept_row}

-- what is prepared for a column serves as long as that keeps its list
module _ (new old : ColumnView) (values : List (Option ℤ)) (keeps : Keeps new old) where
  still_ready_by : (step : Step) (codes : KeptCodes) → IsPreparedFor old values false (record { step = step; codes = codes }) → IsPreparedFor new values false (record { step = step; codes = codes })
  still_ready_by Stay codes is = record {
    can = tt;
    same = refl;
    layout = refl;
    encoding = rw (keeps.values, keeps.encoding) is.encoding;
    coded = rw keeps.encoding is.coded;
    codes = rw keeps.encoding is.codes;
    held = rw keeps.layout is.held;
    few = omega (arith, is.few, ap length keeps.values);
    room = omega (arith, is.room, keeps.room, ap length keeps.values);
  }
  still_ready_by (Shift offset) codes is = record {
    can = rw (keeps.values, keeps.layout, keeps.encoding) is.can;
    same = refl;
    layout = refl;
    encoding = rw (keeps.values, keeps.encoding) is.encoding;
    coded = is.coded;
    codes = is.codes;
    held = rw keeps.layout is.held;
    few = omega (arith, is.few, ap length keeps.values);
    room = omega (arith, is.room, keeps.room, ap length keeps.values);
  }
  still_ready_by (Raise raise) codes is = record {
    can = can_raise_still old new raise keeps.values keeps.encoding is.can;
    same = refl;
    layout = refl;
    encoding = rw (keeps.values, keeps.encoding) is.encoding;
    coded = is.coded;
    codes = is.codes;
    held = rw keeps.layout is.held;
    few = omega (arith, is.few, ap length keeps.values);
    room = omega (arith, is.room, keeps.room, ap length keeps.values);
  }
  still_ready_by (Replace column) codes is = record {
    can = tt;
    same = is.same ∙ sym keeps.values;
    layout = is.layout ∙ sym keeps.layout;
    encoding = rw (keeps.values, keeps.encoding) is.encoding;
    coded = is.coded;
    codes = is.codes;
    held = rw keeps.layout is.held;
    few = omega (arith, is.few, ap length keeps.values);
    room = omega (arith, is.room, ap length keeps.values);
  }

pub still_ready : (new old : ColumnView) (values : List (Option ℤ)) (prepared : Preparation) → Keeps new old → IsPreparedFor old values false prepared → IsPreparedFor new values false prepared
still_ready new old values prepared keeps is = still_ready_by new old values keeps prepared.step prepared.codes is

module _ (new old : ColumnView) (keeps : Keeps new old) where
  fits_kept : (copy : ColumnView) (step : Step) (codes : CopiedCodes) → FitsAfter old step copy codes → FitsAfter new step copy codes
  fits_kept copy Stay Distances is = rw keeps.encoding is
  fits_kept copy Stay (Moved moves) is = rw keeps.encoding is
  fits_kept copy (Shift offset) Distances is = is
  fits_kept copy (Shift offset) (Moved moves) is = is
  fits_kept copy (Raise raise) Distances is = is
  fits_kept copy (Raise raise) (Moved moves) is = is
  fits_kept copy (Replace column) Distances is = is
  fits_kept copy (Replace column) (Moved moves) is = is

  pub ready_for_kept : (found : MaskRows) (own : PreparedValues) → IsReadyFor old found own → IsReadyFor new found own
  ready_for_kept found (ready.Each prepared values) is = still_ready new old values.items prepared keeps is
  ready_for_kept found (ready.Same prepared value) is = still_ready new old (replicate (count_by (λ row. row) found.rows) value) prepared keeps is
  ready_for_kept found (ready.Copied prepared) is = record {
    masked = is.masked;
    fits = fits_kept prepared.copy prepared.step prepared.codes is.fits;
    ready = still_ready new old (chosen_values found prepared.copy.values) (step_alone prepared.step) keeps is.ready;
  }

-- a column can be copied as long as both keep their lists
can_copy_kept : (new old : ColumnView) (from from_old : ColumnView) → Keeps new old → Keeps from from_old → CanCopy old from_old → CanCopy new from
can_copy_kept new old from from_old keeps keeps_from can = record {
  own = rw keeps.encoding can.own;
  kind_is = rw keeps_from.encoding can.kind_is;
  layout = rw (keeps.layout, keeps_from.layout) can.layout;
  coded = rw (keeps.encoding, keeps_from.values) can.coded;
}

module _ (new old : List ColumnView) (kept : AllKept new old) (found : MaskRows) where
  pub gathered_kept : (to : SetTo) → gathered new found to ≡ gathered old found to
  gathered_kept to = map_alike (λ i. value_for to (row_of new i)) (λ i. value_for to (row_of old i)) (places found) (λ k d l. ap (value_for to) (kept_row new old kept (get_or (places found) k d)))

  prepared_kept : (set : ℕ × SetTo) (ready : PreparedValues) → IsPreparedIn old found set ready → IsPreparedIn new found set ready
  prepared_kept set ready is = record {
    values = is.values ∙ sym (gathered_kept set.1);
    ready = λ c. ready_for_kept (get_or new set.0 c) (get_or old set.0 c) (kept.each set.0 c) found ready (is.ready c);
  }

  copied_kept : (later : List (ℕ × SetTo)) (set : ℕ × SetTo) (from : ℕ) → IsCopied old later set from → IsCopied new later set from
  copied_kept later set from is = record {
    is = is.is;
    there = omega (arith, is.there, kept.count);
    apart = is.apart;
    unset = is.unset;
    can = λ c. can_copy_kept (get_or new set.0 c) (get_or old set.0 c) (get_or new from c) (get_or old from c) (kept.each set.0 c) (kept.each from c) (is.can c);
  }

  ready_kept : (later : List (ℕ × SetTo)) (set : ℕ × SetTo) (change : Change) → IsReady old found later set change → IsReady new found later set change
  ready_kept later set (Take ready) is = prepared_kept set ready is
  ready_kept later set (Copy from) is = copied_kept later set from is

  -- one set more is ready
  pub more_ready : (sets : List (ℕ × SetTo)) (changes : List Change) (change : Change) (n : ℕ) → length changes ≡ n → AreReadyFor old found sets changes → ((s : ℕ × SetTo) → IsReady new found (drop (n + 1) sets) (get_or sets n s) change) → AreReadyFor new found sets (changes ++ change ∷ [])
  more_ready sets changes change n len ready here j s d l =
      elim (cases_lt j n) [
        | inl low ↦
            rw (get_or_append_left changes (change ∷ []) d j (omega (arith, len))) (ready_kept (drop (j + 1) sets) (get_or sets j s) (get_or changes j d) (ready j s d (omega (arith, len))))
        | inr high ↦
            let e : j ≡ n = omega (arith, length_push changes change, len) in
            rw (e, get_or_push changes change d n len) (here s)
      ]

none_set : (sets : List (ℕ × SetTo)) (k : ℕ) → All (λ set. set.0 ≢ k) sets → set_of sets k ≡ None
none_set [] k h = refl
none_set (set ∷ sets) k h =
    elim (cases_Bool (set.0 == k)) [
      | inl e ↦ absurd (All-head (λ s. s.0 ≢ k) set sets h (eqb-true set.0 k e))
      | inr e ↦ lookup_tail (λ column. column == k) set sets e ∙ none_set sets k (All-tail (λ s. s.0 ≢ k) set sets h)
    ]

-- the turn of the n-th set: those after it are done
pub record Turn (found : MaskRows) (sets : List (ℕ × SetTo)) (cur old : List ColumnView) (n : ℕ) (here : ℕ × SetTo) (change : Change) : Type 0 where
  pub inside : n < length sets
  pub is : here ≡ get_or sets n here
  pub named : here.0 < length cur
  pub apart : AllPairs (λ s t. s.0 ≢ t.0) sets
  pub done : AllSet found (drop (n + 1) sets) cur old
  pub ready : IsReady old found (drop (n + 1) sets) here change

pub turn : (found : MaskRows) (sets : List (ℕ × SetTo)) (cur old : List ColumnView) (changes rest front : List Change) (change : Change) (m n : ℕ) (d : ℕ × SetTo) → rest ≡ take m changes → length rest ≡ m → rest ≡ front ++ change ∷ [] → n ≡ length front → m ≤ length sets → length changes ≡ length sets → All (λ set. set.0 < length old) sets → AllPairs (λ s t. s.0 ≢ t.0) sets → AreReadyFor old found sets changes → AllSet found (drop m sets) cur old → Turn found sets cur old n (get_or sets n d) change
turn found sets cur old changes rest front change m n d of all last len few count named apart ready done =
    let one : m ≡ n + 1 = one_less changes rest front change m n of all last len in
    let inside : n < length sets = omega (arith, one) in
    record {
      inside = inside;
      is = get_or_default sets n d (get_or sets n d) inside;
      named = omega (arith, named n d inside, done.count);
      apart = apart;
      done = rw one at done;
      ready = rw (popped changes rest front change m n of all last len change) at (ready n d change (omega (arith, inside, count)));
    }

module _ {found : MaskRows} {sets : List (ℕ × SetTo)} {cur old : List ColumnView} {n : ℕ} {here : ℕ × SetTo} {change : Change} (t : Turn found sets cur old n here change) where
  rest : drop n sets ≡ here ∷ drop (n + 1) sets
  rest = drop_more sets n here t.inside ∙ ap (λ s. s ∷ drop (n + 1) sets) (sym t.is)

  free : set_of (drop (n + 1) sets) here.0 ≡ None
  free = none_set (drop (n + 1) sets) here.0 (λ j d l e.
      t.apart n (n + 1 + j) d (omega arith) (omega (arith, length-drop (n + 1) sets)) (ap (λ s. s.0) (sym (t.is ∙ get_or_default sets n here d t.inside)) ∙ sym e ∙ ap (λ s. s.0) (get_or-drop (n + 1) sets j d)))

  set_here : set_of (drop n sets) here.0 ≡ Some here.1
  set_here = ap (λ s. set_of s here.0) rest ∙ lookup_head (λ column. column == here.0) here (drop (n + 1) sets) (eq-eqb here.0 here.0 refl)

  set_there : (k : ℕ) → k ≢ here.0 → set_of (drop n sets) k ≡ set_of (drop (n + 1) sets) k
  set_there k d =
      ap (λ s. set_of s k) rest
      ∙ elim (cases_Bool (here.0 == k)) [
        | inl e ↦ absurd (d (sym (eqb-true here.0 k e)))
        | inr e ↦ lookup_tail (λ column. column == k) here (drop (n + 1) sets) e
      ]

  -- the column of this turn stands as it was
  pub keeps_here : (d : ColumnView) → Keeps (get_or cur here.0 d) (get_or old here.0 d)
  keeps_here d = subst (λ to. IsSet old found to (get_or cur here.0 d) (get_or old here.0 d)) free (t.done.each here.0 d)

  -- and so does one that no later set is of
  keeps_unset : (k : ℕ) → All (λ s. s.0 ≢ k) (drop (n + 1) sets) → (d : ColumnView) → Keeps (get_or cur k d) (get_or old k d)
  keeps_unset k unset d = subst (λ to. IsSet old found to (get_or cur k d) (get_or old k d)) (none_set (drop (n + 1) sets) k unset) (t.done.each k d)

  -- what is written there is what the set says
  pub more_set : (next : List ColumnView) (values : List (Option ℤ)) → values ≡ gathered old found here.1 → IsWrittenIn next cur here.0 found values → AllSet found (drop n sets) next old
  more_set next values all is = record {
    count = is.count ∙ t.done.count;
    each = λ k d.
        elim (cases_eq k here.0) [
          | inl h ↦
              let keeps = keeps_here d in
              let w = is.here d in
              rw (h, set_here) record {
                values_are = w.values_are ∙ ap (λ xs. overwritten found xs (get_or cur here.0 d).values) all ∙ ap (overwritten found (gathered old found here.1)) keeps.values;
                layout = w.layout ∙ keeps.layout;
                encoding = rw (← keeps.values, ← keeps.encoding, ← all) w.encoding;
              }
          | inr m ↦ rw (is.other k d m, set_there k m) (t.done.each k d)
        ];
  }

pub counted : (columns : List ColumnView) (found : MaskRows) (to : SetTo) (values : List (Option ℤ)) → values ≡ gathered columns found to → count_by (λ row. row) found.rows ≡ length values
counted columns found to values e = sym (count_places found) ∙ sym (length-map (places found) (λ i. value_for to (row_of columns i))) ∙ ap length (sym e)

module _ {found : MaskRows} {sets : List (ℕ × SetTo)} {cur old : List ColumnView} {n : ℕ} {here : ℕ × SetTo} where
  pub can_apply : (change : Change) → Turn found sets cur old n here change → CanApply cur found here.0 change
  can_apply (Take ready) t = record {
    prepared = λ c. ready_for_kept (get_or cur here.0 c) (get_or old here.0 c) (keeps_here t c) found ready (t.ready.ready c);
    count = counted old found here.1 (prepared_values found ready) t.ready.values;
  }
  can_apply (Copy from) t = record {
    there = omega (arith, t.ready.there, t.done.count);
    apart = t.ready.apart;
    can = λ c. can_copy_kept (get_or cur here.0 c) (get_or old here.0 c) (get_or cur from c) (get_or old from c) (keeps_here t c) (keeps_unset t from t.ready.unset c) (t.ready.can c);
  }

  -- the values of its change are those of the set
  pub changed_is : (change : Change) → Turn found sets cur old n here change → (c : ColumnView) → changed cur found change ≡ gathered old found here.1
  changed_is (Take ready) t c = t.ready.values
  changed_is (Copy from) t c =
      gathered_column cur found from c (omega (arith, t.ready.there, t.done.count))
      ∙ ap (chosen_values found) (keeps_unset t from t.ready.unset c).values
      ∙ sym (gathered_column old found from c t.ready.there)
      ∙ ap (gathered old found) (sym t.ready.is)

-- one column written, and no other
pub written_set : (columns : List ColumnView) (found : MaskRows) (k : ℕ) (values : List (Option ℤ)) (x : ColumnView) → k < length columns → ((c : ColumnView) → IsWritten x (get_or columns k c) found values) → IsWrittenIn (set columns k x) columns k found values
written_set columns found k values x inside is = record {
  count = length-set columns k x;
  here = λ c. rw (get_or-set_same columns k x c inside) (is c);
  other = λ j c n. get_or-set_other columns k j x c n;
}

-- a column that took the values of another one, each of which has a code in it
pub copied_written : (columns : List ColumnView) (found : MaskRows) (k from : ℕ) (x own other : ColumnView) → k < length columns → from < length columns → ((c : ColumnView) → own ≡ get_or columns k c) → ((c : ColumnView) → other ≡ get_or columns from c) → ((c : ColumnView) → CanCopy (get_or columns k c) (get_or columns from c)) → x.values ≡ overwritten found (chosen_values found other.values) own.values → x.layout ≡ own.layout → x.encoding ≡ own.encoding → IsWrittenIn (set columns k x) columns k found (gathered columns found (Column from))
copied_written columns found k from x own other inside there own_is other_is can values layout encoding =
    let is : gathered columns found (Column from) ≡ chosen_values found other.values = gathered_column columns found from other there ∙ ap (λ (c : ColumnView). chosen_values found c.values) (sym (other_is other)) in
    let here : CanCopy own other = subst (λ (o : ColumnView). CanCopy o other) (sym (own_is own)) (subst (CanCopy (get_or columns k own)) (sym (other_is own)) (can own)) in
    let coded : All (IsCoded own.encoding) (gathered columns found (Column from)) = rw is (all_chosen (IsCoded own.encoding) found other.values tt here.coded) in
    let stays : IsEncodingFor own.values own.encoding (gathered columns found (Column from)) x.encoding = record { stays = λ _. encoding; anew = λ none. absurd (none coded) } in
    let written : IsWritten x own found (gathered columns found (Column from)) = record {
      values_are = values ∙ ap (λ vs. overwritten found vs own.values) (sym is);
      layout = layout;
      encoding = stays;
    } in
    written_set columns found k (gathered columns found (Column from)) x inside (λ c. subst (λ (o : ColumnView). IsWritten x o found (gathered columns found (Column from))) (own_is c) written)

set_long : (columns : List ColumnView) (found : MaskRows) (to : Option SetTo) (new old : ColumnView) → IsSet columns found to new old → length new.values ≡ length old.values
set_long columns found None new old is = ap length is.values
set_long columns found (Some to) new old is = ap length is.values_are ∙ made_len (length old.values) (put_at found (gathered columns found to) old.values)

-- columns that are set stay as long as they were
pub all_long : (found : MaskRows) (sets : List (ℕ × SetTo)) (new old : List ColumnView) → AllSet found sets new old → All (λ column. length column.values ≡ len found) old → All (λ column. length column.values ≡ len found) new
all_long found sets new old all long k d l = set_long old found (set_of sets k) (get_or new k d) (get_or old k d) (all.each k d) ∙ long k d (omega (arith, l, all.count))

pub kept_as_is : (columns : List ColumnView) → AllKept columns columns
kept_as_is columns = record { count = refl; each = λ k d. record { values = refl; layout = refl; encoding = refl; room = omega arith } }
