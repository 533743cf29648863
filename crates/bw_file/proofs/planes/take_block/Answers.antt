use Rattle.std.proofs.Common.{ℕ, FitsSigned, None, ap, arith, drop, get_or, inl, inr, is_some, length, length-drop, length-take, map, of_z, rules, sym, take, to_z, true, w64, ◌%◌, ◌+◌, ◌-◌, ◌/◌, ◌<◌, ◌≡◌, ◌≤◌, ◌∙◌, ◌⊎◌}
use Rattle.std.proofs.lemmas.Bool.{cases_lt}
use Rattle.std.proofs.lemmas.Int.{to_z-of_z}
use Rattle.bw_mask.specs.Masks.{bit_of}
use Rattle.bw_cells.specs.Distances.{distance_from}
use Rattle.bw_code.proofs.Parts.{before_part, in_part, part_length}
use Rattle.bw_file.specs.Cells.{presence_size}
use Rattle.bw_file.proofs.Filled.{bit_is, cell_is, near_at}
use Rattle.bw_file.proofs.Tight.{base_seen, top_seen}
use Rattle.bw_file.proofs.planes.take_block.Goals as goal

pub returns-clause-len : goal.returns-clause-len
returns-clause-len g c =
    let at = c.args.at in
    let m = c.min-end.result - at / 8 in
    let old = c.args.present.now in
    let new = c.put_plane.new.out in
    let size_is : c.div_ceil-size.result ≡ presence_size (length (g.C.Cells.cells c.args.column.now)) = omega (arith, c.div_ceil-size.ensures, c.len-rows.ensures) in
    let room : at / 8 + m ≤ length old = omega (arith, c.requires.present, size_is, c.min-end.ensures, c.requires.inside) in
    let old_size : length (take m (drop (at / 8) old)) ≡ m = omega (arith, length-take m (drop (at / 8) old), length-drop (at / 8) old, room) in
    part_length (at / 8) m old new 0 room (c.put_plane.ensures.len ∙ old_size)

pub returns-clause-small : goal.returns-clause-small
returns-clause-small g c j = omega (arith, c.type_inv.present j)

pub returns-clause-told : goal.returns-clause-told
returns-clause-told g c i h l q =
    let cells = g.C.Cells.cells c.args.column.now in
    let at = c.args.at in
    let count = c.min-count.result in
    let m = c.min-end.result - at / 8 in
    let old = c.args.present.now in
    let new = c.put_plane.new.out in
    let size_is : c.div_ceil-size.result ≡ presence_size (length (g.C.Cells.cells c.args.column.now)) = omega (arith, c.div_ceil-size.ensures, c.len-rows.ensures) in
    let room : at / 8 + m ≤ length old = omega (arith, c.requires.present, size_is, c.min-end.ensures, c.requires.inside) in
    let old_size : length (take m (drop (at / 8) old)) ≡ m = omega (arith, length-take m (drop (at / 8) old), length-drop (at / 8) old, room) in
    let new_size : length new ≡ m = c.put_plane.ensures.len ∙ old_size in
    let there : i / 8 < at / 8 + m = omega (arith, l, q, size_is, c.min-end.ensures, c.requires.first) in
    let byte : i / 8 - at / 8 ≡ (i - at) / 8 = omega (arith, h, c.requires.first) in
    let bit : i % 8 ≡ (i - at) % 8 = omega (arith, h, c.requires.first) in
    ap (λ b. bit_of b (i % 8)) (in_part (at / 8) m old new 0 room new_size (i / 8) (omega (arith, h)) there)
    ∙ ap (λ n. bit_of (get_or new n 0) (i % 8)) byte ∙ ap (bit_of (get_or new ((i - at) / 8) 0)) bit
    ∙ c.put_plane.ensures.bits (i - at) (omega (arith, old_size, there, h, c.requires.first))
    ∙ c.planes_at-bits.ensures.present (i - at)
    ∙ ap is_some (cell_is cells at count i h (ends_of i h l))
  where
    ends_of : (i : ℕ) → c.args.at ≤ i → i < c.args.at + 2048 → i - c.args.at < c.min-count.result ⊎ (length (g.C.Cells.cells c.args.column.now) ≤ c.args.at + c.min-count.result)
    ends_of i h l =
        elim (cases_lt (i - c.args.at) c.min-count.result) [
          | inl low ↦ inl low
          | inr past ↦ inr (omega (arith, past, c.min-count.ensures, l, c.len-rows.ensures, h))
        ]

pub returns-clause-before : goal.returns-clause-before
returns-clause-before g c i h =
    let at = c.args.at in
    let m = c.min-end.result - at / 8 in
    let old = c.args.present.now in
    let new = c.put_plane.new.out in
    let size_is : c.div_ceil-size.result ≡ presence_size (length (g.C.Cells.cells c.args.column.now)) = omega (arith, c.div_ceil-size.ensures, c.len-rows.ensures) in
    let room : at / 8 + m ≤ length old = omega (arith, c.requires.present, size_is, c.min-end.ensures, c.requires.inside) in
    let old_size : length (take m (drop (at / 8) old)) ≡ m = omega (arith, length-take m (drop (at / 8) old), length-drop (at / 8) old, room) in
    let new_size : length new ≡ m = c.put_plane.ensures.len ∙ old_size in
    ap (λ b. bit_of b (i % 8)) (before_part (at / 8) m old new 0 room new_size (i / 8) (omega (arith, h, c.requires.first)))

pub returns-clause-planes : goal.returns-clause-planes
returns-clause-planes g c b r low l =
    let cells = g.C.Cells.cells c.args.column.now in
    let base = c.args.base in
    let at = c.args.at in
    let count = c.min-count.result in
    let fits : FitsSigned w64 base = search rules in
    let same : to_z w64 (of_z w64 base) ≡ base = to_z-of_z w64 base fits in
    let row : at + r - at ≡ r = omega arith in
    c.planes_at-bits.ensures.planes b r low l
    ∙ ap (λ z. bit_of (get_or (map (distance_from z) (take count (drop at cells))) r 0) b) same
    ∙ ap (λ x. bit_of (get_or (map (distance_from base) (take count (drop at cells))) x 0) b) (sym row)
    ∙ bit_is base c.args.k cells fits c.requires.near at count (at + r) b (omega arith) ends
  where
    ends : c.args.at + r - c.args.at < c.min-count.result ⊎ (length (g.C.Cells.cells c.args.column.now) ≤ c.args.at + c.min-count.result)
    ends =
        elim (cases_lt r c.min-count.result) [
          | inl few ↦ inl (omega (arith, few))
          | inr past ↦ inr (omega (arith, past, c.min-count.ensures, l, c.len-rows.ensures))
        ]

pub returns-clause-base : goal.returns-clause-base
returns-clause-base g c e =
    elim (c.with_block.ensures.base e) [
      | inl before ↦ inl before
      | inr (r, low, is, none) ↦
          let cells = g.C.Cells.cells c.args.column.now in
          let base = c.args.base in
          let k = c.args.k in
          let at = c.args.at in
          let count = c.min-count.result in
          let fits : FitsSigned w64 base = search rules in
          let same : to_z w64 (of_z w64 base) ≡ base = to_z-of_z w64 base fits in
          let row : at + r - at ≡ r = omega arith in
          let there = ends r low in
          let cell : is_some (get_or cells (at + r) None) ≡ true =
          sym (ap is_some (cell_is cells at count (at + r) (omega arith) there)) ∙ ap (λ x. is_some (get_or (take count (drop at cells)) x None)) row ∙ sym (c.planes_at-bits.ensures.present r) ∙ is in
          inr (base_seen base k cells (at + r) (near_at base k cells fits c.requires.near (at + r)) cell (λ b h.
          sym (bit_is base k cells fits c.requires.near at count (at + r) b (omega arith) there)
          ∙ ap (λ x. bit_of (get_or (map (distance_from base) (take count (drop at cells))) x 0) b) row
          ∙ ap (λ z. bit_of (get_or (map (distance_from z) (take count (drop at cells))) r 0) b) (sym same)
          ∙ sym (c.planes_at-bits.ensures.planes b r h low) ∙ none b h))
    ]
  where
    ends : (r : ℕ) → r < 2048 → c.args.at + r - c.args.at < c.min-count.result ⊎ (length (g.C.Cells.cells c.args.column.now) ≤ c.args.at + c.min-count.result)
    ends r l =
        elim (cases_lt r c.min-count.result) [
          | inl few ↦ inl (omega (arith, few))
          | inr past ↦ inr (omega (arith, past, c.min-count.ensures, l, c.len-rows.ensures))
        ]

pub returns-clause-top : goal.returns-clause-top
returns-clause-top g c e =
    elim (c.with_block.ensures.top e) [
      | inl before ↦ inl before
      | inr (r, low, is) ↦
          let cells = g.C.Cells.cells c.args.column.now in
          let base = c.args.base in
          let k = c.args.k in
          let at = c.args.at in
          let count = c.min-count.result in
          let fits : FitsSigned w64 base = search rules in
          let same : to_z w64 (of_z w64 base) ≡ base = to_z-of_z w64 base fits in
          let row : at + r - at ≡ r = omega arith in
          let there = ends r low in
          let high : k - 1 < k = omega (arith, c.requires.some) in
          inr (top_seen base k cells (at + r)
          (sym (bit_is base k cells fits c.requires.near at count (at + r) (k - 1) (omega arith) there)
          ∙ ap (λ x. bit_of (get_or (map (distance_from base) (take count (drop at cells))) x 0) (k - 1)) row
          ∙ ap (λ z. bit_of (get_or (map (distance_from z) (take count (drop at cells))) r 0) (k - 1)) (sym same)
          ∙ sym (c.planes_at-bits.ensures.planes (k - 1) r high low) ∙ is))
    ]
  where
    ends : (r : ℕ) → r < 2048 → c.args.at + r - c.args.at < c.min-count.result ⊎ (length (g.C.Cells.cells c.args.column.now) ≤ c.args.at + c.min-count.result)
    ends r l =
        elim (cases_lt r c.min-count.result) [
          | inl few ↦ inl (omega (arith, few))
          | inr past ↦ inr (omega (arith, past, c.min-count.ensures, l, c.len-rows.ensures))
        ]
