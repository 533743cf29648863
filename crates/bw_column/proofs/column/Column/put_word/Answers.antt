use Rattle.std.proofs.Common.{ap, drop, min, sym, ◌-◌, ◌++◌, List, None, Option, arith, length-take, replicate, take, ℤ, if◌then◌else◌, get_or, length, ℕ, ◌+◌, ◌<◌, ◌≡◌, ◌≤◌, ◌∙◌}
use Rattle.std.proofs.Math.Seq.{take-append_seam}
use Rattle.std.proofs.lemmas.List.{length-replicate}
use Rattle.bw_mask.specs.Masks.{len, row_at}
use Rattle.bw_column.specs.Codes.{IsCoded, codes_for}
use Rattle.bw_column.specs.Places.{rank}
use Rattle.bw_column.specs.Values.{IsNullOrHeld}
use Rattle.bw_column.proofs.Spreads.{are_put, codes_spread, spread_all}
use Rattle.bw_column.proofs.column.Column.put_word.Goals as goal

-- the words that are spread over, as they begin
abbrev null : Option ℤ
null = None

abbrev nulls : List (Option ℤ)
nulls = replicate 64 null

abbrev zeros : List ℕ
zeros = replicate 64 0

pub put_block-requires-clause-coded : goal.put_block-requires-clause-coded
put_block-requires-clause-coded c =
    let places = c.args.places.now in
    let values = c.args.values.now in
    let start = c.args.start in
    let n = c.min-n.result in
    let out = c.spread-next.new.out in
    let inside : start + n ≤ len places = omega (arith, c.min-n.ensures, c.len.ensures.count, c.requires.places, c.requires.inside) in
    let whole : length (take n nulls) ≡ n = omega (arith, length-take n nulls, length-replicate 64 null, c.min-n.ensures) in
    let part : length out ≡ n = c.spread-next.ensures.long ∙ whole in
    let each : (k : ℕ) → k < n → get_or out k None ≡ (if row_at places (start + k) then get_or values (rank places (start + k)) None else None) = λ k h. c.spread-next.ensures.each k (omega (arith, h, whole)) in
    spread_all places values out start n inside each (IsCoded c.args.self.now.encoding) tt c.requires.coded c.requires.count part

pub put_block-requires-clause-held : goal.put_block-requires-clause-held
put_block-requires-clause-held c =
    let places = c.args.places.now in
    let values = c.args.values.now in
    let start = c.args.start in
    let n = c.min-n.result in
    let out = c.spread-next.new.out in
    let inside : start + n ≤ len places = omega (arith, c.min-n.ensures, c.len.ensures.count, c.requires.places, c.requires.inside) in
    let whole : length (take n nulls) ≡ n = omega (arith, length-take n nulls, length-replicate 64 null, c.min-n.ensures) in
    let part : length out ≡ n = c.spread-next.ensures.long ∙ whole in
    let each : (k : ℕ) → k < n → get_or out k None ≡ (if row_at places (start + k) then get_or values (rank places (start + k)) None else None) = λ k h. c.spread-next.ensures.each k (omega (arith, h, whole)) in
    spread_all places values out start n inside each (IsNullOrHeld c.args.self.now.layout) tt c.requires.held c.requires.count part

pub put_rows-requires-clause-coded : goal.put_rows-requires-clause-coded
put_rows-requires-clause-coded c =
    let places = c.args.places.now in
    let values = c.args.values.now in
    let start = c.args.start in
    let n = c.min-n.result in
    let out = c.spread-next.new.out in
    let inside : start + n ≤ len places = omega (arith, c.min-n.ensures, c.len.ensures.count, c.requires.places, c.requires.inside) in
    let whole : length (take n nulls) ≡ n = omega (arith, length-take n nulls, length-replicate 64 null, c.min-n.ensures) in
    let part : length out ≡ n = c.spread-next.ensures.long ∙ whole in
    let each : (k : ℕ) → k < n → get_or out k None ≡ (if row_at places (start + k) then get_or values (rank places (start + k)) None else None) = λ k h. c.spread-next.ensures.each k (omega (arith, h, whole)) in
    spread_all places values out start n inside each (IsCoded c.args.self.now.encoding) tt c.requires.coded c.requires.count part

pub put_rows-requires-clause-held : goal.put_rows-requires-clause-held
put_rows-requires-clause-held c =
    let places = c.args.places.now in
    let values = c.args.values.now in
    let start = c.args.start in
    let n = c.min-n.result in
    let out = c.spread-next.new.out in
    let inside : start + n ≤ len places = omega (arith, c.min-n.ensures, c.len.ensures.count, c.requires.places, c.requires.inside) in
    let whole : length (take n nulls) ≡ n = omega (arith, length-take n nulls, length-replicate 64 null, c.min-n.ensures) in
    let part : length out ≡ n = c.spread-next.ensures.long ∙ whole in
    let each : (k : ℕ) → k < n → get_or out k None ≡ (if row_at places (start + k) then get_or values (rank places (start + k)) None else None) = λ k h. c.spread-next.ensures.each k (omega (arith, h, whole)) in
    spread_all places values out start n inside each (IsNullOrHeld c.args.self.now.layout) tt c.requires.held c.requires.count part

pub put_rows-requires-clause-codes : goal.put_rows-requires-clause-codes
put_rows-requires-clause-codes c =
    let places = c.args.places.now in
    let values = c.args.values.now in
    let start = c.args.start in
    let n = c.min-n.result in
    let out = c.spread-next.new.out in
    let inside : start + n ≤ len places = omega (arith, c.min-n.ensures, c.len.ensures.count, c.requires.places, c.requires.inside) in
    let whole : length (take n nulls) ≡ n = omega (arith, length-take n nulls, length-replicate 64 null, c.min-n.ensures) in
    let part : length out ≡ n = c.spread-next.ensures.long ∙ whole in
    let each : (k : ℕ) → k < n → get_or out k None ≡ (if row_at places (start + k) then get_or values (rank places (start + k)) None else None) = λ k h. c.spread-next.ensures.each k (omega (arith, h, whole)) in
    let codes = c.spread.new.out in
    let e = c.args.self.now.encoding in
    let lent = c.as_slice.result.now in
    let kept : c.in-Places.kept.items ≡ codes_for e values = rw c.in-Places.is at c.requires.codes in
    let room : length (take n zeros) ≡ n = omega (arith, length-take n zeros, length-replicate {A = ℕ} 64 0, c.min-n.ensures) in
    let long : length codes ≡ n = c.spread.ensures.long ∙ room in
    let front : take n (codes ++ drop n zeros) ≡ codes = ap (λ m. take m (codes ++ drop n zeros)) (sym long) ∙ take-append_seam codes (drop n zeros) in
    front ∙ codes_spread places values out start n inside each e lent codes (c.as_slice.ensures.value ∙ kept) part (c.spread.ensures.long ∙ room) (λ i h. c.spread.ensures.each i (omega (arith, h, room)))

pub returns-in-Distances-clause-put : goal.returns-in-Distances-clause-put
returns-in-Distances-clause-put c =
    let places = c.args.places.now in
    let values = c.args.values.now in
    let start = c.args.start in
    let n = c.min-n.result in
    let out = c.spread-next.new.out in
    let inside : start + n ≤ len places = omega (arith, c.min-n.ensures, c.len.ensures.count, c.requires.places, c.requires.inside) in
    let whole : length (take n nulls) ≡ n = omega (arith, length-take n nulls, length-replicate 64 null, c.min-n.ensures) in
    let part : length out ≡ n = c.spread-next.ensures.long ∙ whole in
    let each : (k : ℕ) → k < n → get_or out k None ≡ (if row_at places (start + k) then get_or values (rank places (start + k)) None else None) = λ k h. c.spread-next.ensures.each k (omega (arith, h, whole)) in
    let old = c.args.self.now.values in
    let put = are_put places values out start n inside each old c.bits-rows.result c.requires.places c.bits-rows.ensures in
    let size : min (len places - start) 64 ≡ n = rw (c.requires.places, ← c.len.ensures.count) (sym c.min-n.ensures) in
    rw (c.put_block.ensures.values, size) put

pub returns-in-Places-clause-put : goal.returns-in-Places-clause-put
returns-in-Places-clause-put c =
    let places = c.args.places.now in
    let values = c.args.values.now in
    let start = c.args.start in
    let n = c.min-n.result in
    let out = c.spread-next.new.out in
    let inside : start + n ≤ len places = omega (arith, c.min-n.ensures, c.len.ensures.count, c.requires.places, c.requires.inside) in
    let whole : length (take n nulls) ≡ n = omega (arith, length-take n nulls, length-replicate 64 null, c.min-n.ensures) in
    let part : length out ≡ n = c.spread-next.ensures.long ∙ whole in
    let each : (k : ℕ) → k < n → get_or out k None ≡ (if row_at places (start + k) then get_or values (rank places (start + k)) None else None) = λ k h. c.spread-next.ensures.each k (omega (arith, h, whole)) in
    let old = c.args.self.now.values in
    let put = are_put places values out start n inside each old c.bits-rows.result c.requires.places c.bits-rows.ensures in
    let size : min (len places - start) 64 ≡ n = rw (c.requires.places, ← c.len.ensures.count) (sym c.min-n.ensures) in
    rw (c.put_rows.ensures.values, size) put
