-- What one column's growth, and one column's change, do to all columns.
use Rattle.std.proofs.Common.{◌≡◌, ℕ, ℤ, ◌+◌, ◌<◌, ◌≤◌, List, [], ◌∷◌, ◌++◌, length, get_or, set, take, true, sym, ap, subst, ◌∙◌, inl, inr, arith, length-set, Option}
use Rattle.std.proofs.lemmas.Bool.{cases_eq}
use Rattle.std.proofs.lemmas.List.{get_or-set_same, get_or-set_other, get_or_push, get_or_append_left, length_push, get_or-take, take-take}
use Rattle.std.proofs.Math.Seq.{take-append_seam}
use Rattle.bw_column.specs.Columns.{ColumnView, Keeps}
use Rattle.bw_column.specs.Preparing.{IsEncodingFor, IsPreparedFor, Preparation}
use Rattle.bw_table.specs.Slots.{column_of}
use Rattle.bw_table.specs.Halves.{AllKept, AllMadeFrom, AreReadyBelow, IsMade}

keeps_chain : {a b c : ColumnView} → Keeps a b → Keeps b c → Keeps a c
keeps_chain p q = record { values = p.values ∙ q.values; layout = p.layout ∙ q.layout; encoding = p.encoding ∙ q.encoding; room = omega (arith, p.room, q.room) }

pub kept_chain : {a b c : List ColumnView} → AllKept a b → AllKept b c → AllKept a c
kept_chain p q = record { count = p.count ∙ q.count; each = λ k d. keeps_chain (p.each k d) (q.each k d) }

module _ (columns old : List ColumnView) (k : ℕ) (x : ColumnView) (inside : k < length columns) (keeps : (d : ColumnView) → Keeps x (get_or columns k d)) where
  pub kept_set : AllKept columns old → AllKept (set columns k x) old
  kept_set kept = record {
    count = length-set columns k x ∙ kept.count;
    each = λ j d.
        elim (cases_eq j k) [
          | inl e ↦ rw (e, get_or-set_same columns k x d inside) (keeps_chain (keeps d) (kept.each k d))
          | inr n ↦ rw (get_or-set_other columns k j x d n) (kept.each j d)
        ];
  }

  pub ready_more : (rows : List (List (Option ℤ))) (changes : List Preparation) (change : Preparation) → length changes ≡ k → AreReadyBelow k rows columns changes → IsPreparedFor x (column_of rows k) true change → AreReadyBelow (k + 1) rows (set columns k x) (changes ++ change ∷ [])
  ready_more rows changes change len ready here j c d l =
      elim (cases_eq j k) [
        | inl e ↦ rw (e, get_or-set_same columns k x c inside, get_or_push changes change d k len) here
        | inr n ↦
            let low : j < k = omega arith in
            rw (get_or-set_other columns k j x c n, get_or_append_left changes (change ∷ []) d j (omega (arith, len))) (ready j c d low)
      ]

pub made_more : (rows : List (List (Option ℤ))) (new old : List ColumnView) (n : ℕ) (x : ColumnView) → n < length new → ((c : ColumnView) → IsMade x (get_or old n c) (column_of rows n)) → AllMadeFrom (n + 1) rows new old → AllMadeFrom n rows (set new n x) old
made_more rows new old n x inside here made j c low l =
    elim (cases_eq j n) [
      | inl e ↦ rw (e, get_or-set_same new n x c inside) (here c)
      | inr m ↦ rw (get_or-set_other new n j x c m) (made j c (omega arith) l)
    ]

-- the last of the first m, taken off
module _ {A : Type 0} (changes rest front : List A) (change : A) (m n : ℕ) (of : rest ≡ take m changes) (all : length rest ≡ m) (last : rest ≡ front ++ change ∷ []) (len : n ≡ length front) where
  pub one_less : m ≡ n + 1
  one_less = sym all ∙ ap length last ∙ length_push front change ∙ ap (λ k. k + 1) (sym len)

  pub popped : (d : A) → get_or changes n d ≡ change
  popped d =
      let low : n < m = omega (arith, one_less) in
      sym (get_or-take m changes n d low) ∙ ap (λ xs. get_or xs n d) (sym of ∙ last) ∙ get_or_push front change d n (sym len)

  pub front_is : front ≡ take n changes
  front_is =
      let low : n ≤ m = omega (arith, one_less) in
      sym (ap (λ k. take k (front ++ change ∷ [])) len ∙ take-append_seam front (change ∷ [])) ∙ ap (take n) (sym last ∙ of) ∙ take-take n m changes low

-- what an append ensures
pub made_by : (new now old : ColumnView) (values : List (Option ℤ)) → now ≡ old → new.values ≡ now.values ++ values → new.layout ≡ now.layout → IsEncodingFor now.values now.encoding values new.encoding → IsMade new old values
made_by new now old values o v l k = record {
  values = v ∙ ap (λ (c : ColumnView). c.values ++ values) o;
  layout = l ∙ ap (λ (c : ColumnView). c.layout) o;
  encoding = subst (λ (c : ColumnView). IsEncodingFor c.values c.encoding values new.encoding) o k;
}
