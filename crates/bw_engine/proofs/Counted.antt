-- What is said to a statement of its condition.
use Rattle.std.proofs.Common.{◌≡◌, ◌∙◌, ℕ, ◌<◌, ◌≤◌, ◌^◌, Bool, true, false, List, [], ◌∷◌, get_or, length, map, Option, zero, suc, inl, inr, refl, sym, ap, subst, arith}
use Rattle.std.proofs.lemmas.Bool.{cases_lt}
use Rattle.std.proofs.lemmas.List.{get_or-map, length-map}
use Rattle.bw_mask.specs.Masks.{MaskRows, len, row_at}
use Rattle.bw_code.specs.Meters.{raised}
use Rattle.bw_table.specs.Slots.{Slot, live_slot, slot_at}
use Rattle.bw_sql.specs.Tree.{StatementTree, create_table, delete, drop_table, insert, list_tables, load, open_table, rebuild, save, select, stats, update}
use Rattle.bw_model.specs.Contents.{MayBeSaid}
use Rattle.bw_engine.specs.Counting.{is_live, said_of, units_of}
use Rattle.bw_engine.specs.Stores.{Stored, store_of}

fits : (units : ℕ) → raised 0 units < 2 ^ 64
fits units = omega arith

pub may_be_said : (tables : Stored) (tree : StatementTree) → MayBeSaid (store_of tables) tree (said_of tables tree)
may_be_said tables (create_table name columns) = inl refl
may_be_said tables (drop_table name) = inl refl
may_be_said tables list_tables = inl refl
may_be_said tables (insert name listed rows) = inl refl
may_be_said tables (update name sets condition) = inl refl
may_be_said tables (delete name condition) = inl refl
may_be_said tables (rebuild name choices) = inl refl
may_be_said tables (select query) = inl refl
may_be_said tables (stats query) = inr (inl (units_of tables query, fits _, refl))
may_be_said tables (load name file first) = inl refl
may_be_said tables (save name file) = inl refl
may_be_said tables (open_table name file) = inl refl

-- past the end a list has what stands for nothing
past : {A : Type 0} (xs : List A) (i : ℕ) (d : A) → length xs ≤ i → get_or xs i d ≡ d
past [] i d h = refl
past (x ∷ xs) zero d h = absurd (omega (arith, h))
past (x ∷ xs) (suc i) d h = past xs i d (omega (arith, h))

-- the mask of the live slots says of each place whether a live slot is there
pub live_is : (slots : List Slot) (live : MaskRows) → len live ≡ length slots → ((i : ℕ) → i < length slots → row_at live i ≡ (slot_at slots i).live) → row_at live ≡ is_live slots
live_is slots live count rows = λ j i. at i j
  where
    at : (i : ℕ) → row_at live i ≡ is_live slots i
    at i =
        elim (cases_lt i (length slots)) [
          | inl low ↦ rows i low ∙ sym (get_or-map (λ (slot : Slot). slot.live) slots i (live_slot []) false low)
          | inr high ↦ past live.rows i false (omega (arith, high, count)) ∙ sym (past (map (λ (slot : Slot). slot.live) slots) i false (omega (arith, high, length-map slots (λ (slot : Slot). slot.live))))
        ]
