-- Where rows go: behind the slots, or behind the live ones alone.
use Rattle.std.proofs.Common.{List, Option, [], arith, false, inl, inr, length, nat_le, subst, sym, ℤ, ◌+◌, ◌<◌, ◌≡◌, ◌≤◌}
use Rattle.std.proofs.lemmas.Bool.{cases_Bool, le-leb, leb-true}
use Rattle.std.proofs.lemmas.List.Sums.{count_by-le-length, length-filter}
use Rattle.bw_table.specs.Changes.{AreAppended, AreInserted, AreRebuilt, Inserts}
use Rattle.bw_table.specs.Slots.{Slot, SlotsView, live_slots, slot_limit}

pub fewer_live : (slots : List Slot) → length (live_slots slots) ≤ length slots
fewer_live slots = omega (arith, length-filter (λ (slot : Slot). slot.live) slots, count_by-le-length (λ (slot : Slot). slot.live) slots)

module _ (old new : SlotsView) (rows : List (List (Option ℤ))) where
  pub inserted_behind : length old.slots + length rows ≤ slot_limit → AreAppended old rows new → AreInserted old rows new
  inserted_behind fits appended = subst (λ b. Inserts b old rows new) (sym (le-leb (length old.slots + length rows) slot_limit fits)) appended

  not_within : slot_limit < length old.slots + length rows → nat_le (length old.slots + length rows) slot_limit ≡ false
  not_within more =
      elim (cases_Bool (nat_le (length old.slots + length rows) slot_limit)) [
        | inl e ↦ absurd (omega (arith, more, leb-true (length old.slots + length rows) slot_limit e))
        | inr e ↦ e
      ]

  pub inserted_compact : slot_limit < length old.slots + length rows → (compact : SlotsView) → AreRebuilt [] old compact → AreAppended compact rows new → AreInserted old rows new
  inserted_compact more compact rebuilt appended = subst (λ b. Inserts b old rows new) (sym (not_within more)) (compact, rebuilt, appended)
