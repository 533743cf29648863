-- A store without one of its tables.
use Rattle.std.proofs.Common.{◌≡◌, ◌∙◌, ℕ, ◌<◌, ◌≤◌, Bool, true, false, ◌&&◌, ◌||◌, not, List, [], ◌∷◌, get_or, length, map, position, remove, None, Some, if◌then◌else◌, zero, suc, refl, sym, ap, arith}
use Rattle.std.specs.List.{All, list_any}
use Rattle.std.specs.Str.{bytes_eq}
use Rattle.std.proofs.lemmas.Bool.{true≢false}
use Rattle.std.proofs.lemmas.List.Elements.{All-cons, All-head, All-tail}
use Rattle.std.proofs.lemmas.List.Quantifiers.{position-Some}
use Rattle.bw_sql.specs.Tree.{drop_table}
use Rattle.bw_model.specs.Refusals.{first_that_holds, over}
use Rattle.bw_model.specs.Step.{outcome_of, without_table}
use Rattle.bw_model.specs.Store.{Store, Table, are_distinct}
use Rattle.bw_model.specs.declared.refusal.Refusal.TheVariants.{NoSuchTable}
use Rattle.bw_model.specs.declared.content.Content.TheVariants.{Nothing}
use Rattle.bw_model.specs.declared.reply.Reply.{Reply}
use Rattle.bw_model.specs.declared.reply.Reply.TheVariants.{Done, Refused}
use Rattle.bw_model.proofs.Passing.{neither, two}
use Rattle.bw_model.proofs.Stores.{absent, found, outcome_is}

-- what is true of each table is true of each that is left
module _ (P : List ℕ × Table → Type 0) (name : List ℕ) where
  left : (b : Bool) (entry : List ℕ × Table) (store others : Store) → All P (entry ∷ store) → All P others → All P (if b then store else entry ∷ others)
  left true entry store others all deeper = All-tail P entry store all
  left false entry store others all deeper = All-cons P entry others (All-head P entry store all) deeper

  pub All-without : (store : Store) → All P store → All P (without_table store name)
  All-without [] all = all
  All-without (entry ∷ store) all = left (bytes_eq name entry.0) entry store (without_table store name) all (All-without store (All-tail P entry store all))

module _ (name : List ℕ) where
  fewer : (b : Bool) (entry : List ℕ × Table) (store others : Store) → length others ≤ length store → length (if b then store else entry ∷ others) ≤ suc (length store)
  fewer true entry store others few = omega arith
  fewer false entry store others few = omega (arith, few)

  pub few_without : (store : Store) → length (without_table store name) ≤ length store
  few_without [] = omega arith
  few_without (entry ∷ store) = fewer (bytes_eq name entry.0) entry store (without_table store name) (few_without store)

  abbrev table_names : Store → List (List ℕ)
  table_names store = map (λ entry. entry.0) store

  neither_of : (c d : Bool) → c ≡ false → d ≡ false → (c || d) ≡ false
  neither_of true d e f = absurd (true≢false e)
  neither_of false d e f = f

  still_unseen : (p : List ℕ → Bool) (b : Bool) (entry : List ℕ × Table) (store others : Store) → p entry.0 ≡ false → list_any p (table_names store) ≡ false → list_any p (table_names others) ≡ false
      → list_any p (table_names (if b then store else entry ∷ others)) ≡ false
  still_unseen p true entry store others here rest deeper = rest
  still_unseen p false entry store others here rest deeper = neither_of (p entry.0) (list_any p (table_names others)) here deeper

  unseen_without : (p : List ℕ → Bool) (store : Store) → list_any p (table_names store) ≡ false → list_any p (table_names (without_table store name)) ≡ false
  unseen_without p [] e = e
  unseen_without p (entry ∷ store) e =
      let q = neither (p entry.0) (list_any p (table_names store)) e in
      still_unseen p (bytes_eq name entry.0) entry store (without_table store name) q.0 q.1 (unseen_without p store q.1)

  not_and : (c d : Bool) → c ≡ false → d ≡ true → (not c && d) ≡ true
  not_and true d e f = absurd (true≢false e)
  not_and false d e f = f

  unseen_if : (c : Bool) → not c ≡ true → c ≡ false
  unseen_if true e = absurd (true≢false (sym e))
  unseen_if false e = refl

  still_distinct : (b : Bool) (entry : List ℕ × Table) (store others : Store) → list_any (bytes_eq entry.0) (table_names others) ≡ false → are_distinct (table_names store) ≡ true → are_distinct (table_names others) ≡ true
      → are_distinct (table_names (if b then store else entry ∷ others)) ≡ true
  still_distinct true entry store others unseen rest deeper = rest
  still_distinct false entry store others unseen rest deeper = not_and (list_any (bytes_eq entry.0) (table_names others)) (are_distinct (table_names others)) unseen deeper

  pub distinct_without : (store : Store) → are_distinct (table_names store) ≡ true → are_distinct (table_names (without_table store name)) ≡ true
  distinct_without [] e = e
  distinct_without (entry ∷ store) e =
      let q = two (not (list_any (bytes_eq entry.0) (table_names store))) (are_distinct (table_names store)) e in
      still_distinct (bytes_eq name entry.0) entry store (without_table store name)
      (unseen_without (bytes_eq entry.0) store (unseen_if (list_any (bytes_eq entry.0) (table_names store)) q.0)) q.1 (distinct_without store q.1)

  -- the table at the first place of its name taken out
  here : (b : Bool) (entry : List ℕ × Table) (store others : Store) → b ≡ true → store ≡ (if b then store else entry ∷ others)
  here true entry store others e = refl
  here false entry store others e = absurd (true≢false (sym e))

  further : (b : Bool) (entry : List ℕ × Table) (store others left : Store) → b ≡ false → left ≡ others → entry ∷ left ≡ (if b then store else entry ∷ others)
  further true entry store others left e same = absurd (true≢false e)
  further false entry store others left e same = ap (λ l. entry ∷ l) same

  removed_at : (store : Store) (i : ℕ) (d : List ℕ × Table) → i < length store → bytes_eq name (get_or store i d).0 ≡ true → ((k : ℕ) → k < i → bytes_eq name (get_or store k d).0 ≡ false) → remove store i ≡ without_table store name
  removed_at [] i d within is others = absurd (omega arith)
  removed_at (entry ∷ store) zero d within is others = here (bytes_eq name entry.0) entry store (without_table store name) is
  removed_at (entry ∷ store) (suc i) d within is others =
      further (bytes_eq name entry.0) entry store (without_table store name) (remove store i) (others 0 (omega arith)) (removed_at store i d (omega arith) is (λ k below. others (suc k) (omega arith)))

  pub dropped : (store : Store) (i : ℕ) (d : List ℕ × Table) → position (λ e. bytes_eq name e.0) store ≡ Some i → d ≡ get_or store i d → ◌≡◌ {A = Reply × Store} (Done, remove store i) (outcome_of store Nothing (drop_table name))
  dropped store i d place at =
      let p = position-Some (λ e. bytes_eq name e.0) store i d place in
      let there = found name (λ t. t) store i d place at in
      ap (λ s. (Done, s)) (removed_at store i d p.0 p.1 p.2)
      ∙ sym (outcome_is store Nothing (drop_table name) None (ap (λ o. first_that_holds (over o (λ t. []))) there.there))

  pub not_dropped : (store : Store) → position (λ e. bytes_eq name e.0) store ≡ None → ◌≡◌ {A = Reply × Store} (Refused NoSuchTable, store) (outcome_of store Nothing (drop_table name))
  not_dropped store place =
      sym (outcome_is store Nothing (drop_table name) (Some NoSuchTable) (ap (λ o. first_that_holds (over o (λ t. []))) (absent name store place)))
