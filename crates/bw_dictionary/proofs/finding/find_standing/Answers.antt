use Rattle.std.proofs.Common.{Some, [], ap, arith, false, get_or, inl, inr, length, of_z, pos, refl, sym, to_z, true≢false, w64, ◌+◌, ◌<◌, ◌≡◌, ◌∙◌, ◌∷◌}
use Rattle.std.proofs.lemmas.Bool.{cases_eq}
use Rattle.std.proofs.lemmas.Int.{ints, to_z-of_z}
use Rattle.std.proofs.lemmas.List.{get_or_append_left, get_or_default, get_or_push, length-append}
use Rattle.bw_code.specs.Encodings.{entry_code}
use Rattle.bw_code.proofs.Entries.{entry_is}
use Rattle.bw_dictionary.specs.Finding.{AreBelow}
use Rattle.bw_dictionary.specs.Merging.{StandsAt}
use Rattle.bw_dictionary.proofs.finding.find_standing.Goals as goal

pub returns-in_default-clause-all : goal.returns-in_default-clause-all
returns-in_default-clause-all c =
    let x = get_or c.args.wanted.now c.wanted.i (pos 0) in
    let back : to_z w64 (of_z w64 x) ≡ x = search (arith, ints, to_z-of_z) in
    let is = rw back at c.in_default.ensures.is in
    let there : c.wanted.i < length c.args.wanted.now = omega (arith, c.wanted-test.true) in
    let stood : StandsAt c.args.stands.now c.wanted.i = search arith in
    (λ it. absurd (true≢false (sym it)), λ all. is.1 (all x (c.wanted.i, there, stood, refl)))

pub wanted-preserved-then-not-stands-i : goal.wanted-preserved-then-not-stands-i
wanted-preserved-then-not-stands-i c =
    let entries = c.args.entries.now in
    let wanted = c.args.wanted.now in
    let i = c.wanted.i in
    let v = c.wanted.invariant in
    let there : i < length wanted = omega (arith, c.wanted-test.true) in
    let none : get_or c.args.stands.now i false ≡ false = search arith in
    record {
      inside = v.inside;
      count = omega (arith, ap length c.push_reserved.ensures.items, length-append c.wanted.places.items (0 ∷ []), v.count);
      room = omega (arith, c.push_reserved.ensures.capacity, v.room);
      found = λ k h stood. elim (cases_eq k i) [
        | inl same ↦ absurd (true≢false (sym stood ∙ ap (λ j. get_or c.args.stands.now j false) same ∙ none))
        | inr other ↦
            let before : k < i = omega (arith, h, other) in
            v.found k before stood ∙ ap Some (sym (ap (λ xs. get_or xs k 0) c.push_reserved.ensures.items ∙ get_or_append_left c.wanted.places.items (0 ∷ []) 0 k (omega (arith, before, v.count))))
      ];
      before = λ more k h. let less = c.requires.wanted i (i + 1) (omega arith) more in let low = v.before there k h in omega (arith, ints, less, low);
    }

pub wanted-preserved : goal.wanted-preserved
wanted-preserved c =
    let entries = c.args.entries.now in
    let wanted = c.args.wanted.now in
    let i = c.wanted.i in
    let x = get_or wanted i (pos 0) in
    let n = c.in-Some.place in
    let back : to_z w64 (of_z w64 x) ≡ x = search (arith, ints, to_z-of_z) in
    let below : AreBelow entries x n = rw back at c.in-Some.ensures.before in
    let code : entry_code entries x ≡ Some n = rw back at c.in-Some.ensures.code in
    let v = c.wanted.invariant in
    record {
      inside = omega (arith, c.in-Some.ensures.inside);
      count = omega (arith, ap length c.push_reserved-in-wanted.ensures.items, length-append c.wanted.places.items (n ∷ []), v.count);
      room = omega (arith, c.push_reserved-in-wanted.ensures.capacity, v.room);
      found = λ k h stood. elim (cases_eq k i) [
        | inl same ↦ ap (λ j. entry_code entries (get_or wanted j (pos 0))) same ∙ code ∙ ap Some (sym (ap (λ xs. get_or xs k 0) c.push_reserved-in-wanted.ensures.items ∙ get_or_push c.wanted.places.items n 0 k (v.count ∙ sym same)))
        | inr other ↦
            let before : k < i = omega (arith, h, other) in
            v.found k before stood ∙ ap Some (sym (ap (λ xs. get_or xs k 0) c.push_reserved-in-wanted.ensures.items ∙ get_or_append_left c.wanted.places.items (n ∷ []) 0 k (omega (arith, before, v.count))))
      ];
      before = λ more k h. let less = c.requires.wanted i (i + 1) (omega arith) more in let low = below k h in omega (arith, ints, less, low);
    }

pub returns-clause-all : goal.returns-clause-all
returns-clause-all c =
    let entries = c.args.entries.now in
    let wanted = c.args.wanted.now in
    let v = c.wanted.invariant in (
      λ it x h.
          let e = entry_is entries (get_or wanted h.0 (pos 0)) (get_or c.wanted.places.items h.0 0) c.requires.entries (v.found h.0 (omega (arith, h.1, c.wanted-test.false)) h.2) in
          (get_or c.wanted.places.items h.0 0, e.within, get_or_default entries (get_or c.wanted.places.items h.0 0) x (pos 0) e.within ∙ e.here ∙ h.3),
      λ all. refl,
    )
