use Rattle.std.proofs.Common.{None, ap, arith, drop, get_or, length, slice_set, sym, ◌++◌, ◌+◌, ◌-◌, ◌∙◌, ◌∷◌, ◌≡◌}
use Rattle.std.proofs.lemmas.List.{drop_all, drop-set}
use Rattle.bw_shell.specs.ValueTexts.{value_text}
use Rattle.bw_shell.proofs.LineTexts.{line_whole, value_more}
use Rattle.bw_shell.proofs.Texts.{others_text}
use Rattle.bw_shell.proofs.backward_text.write_line.Goals as goal

pub loop-i-init : goal.loop-i-init
loop-i-init c =
    let values = c.args.values.now in
    let after = 10 ∷ drop c.args.end c.args.bytes.now in
    record {
      inside = omega arith;
      before = omega arith;
      room = c.requires.room;
      text = ap (λ l. others_text value_text l ++ after) (sym (drop_all (length values) values (omega arith)));
    }

pub loop-i-preserved : goal.loop-i-preserved
loop-i-preserved c =
    let l = c.loop-i in
    let values = c.args.values.now in
    let i = l.i - 1 in
    let next : i + 1 ≡ l.i = omega (arith, c.loop-i-test.true) in
    let at : l.at - 1 + 1 ≡ l.at = omega (arith, c.loop-i-test.true, l.invariant.room) in
    let after = 10 ∷ drop c.args.end c.args.bytes.now in
    let mark : drop (l.at - 1) (slice_set l.bytes (l.at - 1) l.mark) ≡ l.mark ∷ drop l.at l.bytes =
    drop-set l.bytes (l.at - 1) l.mark (omega (arith, at, l.invariant.before, l.auto.bytes, c.requires.inside)) ∙ ap (λ k. l.mark ∷ drop k l.bytes) at in
    record {
      inside = omega (arith, l.invariant.inside);
      before = omega (arith, c.write_value-at.ensures.before, l.invariant.before);
      room = omega (arith, c.write_value-at.ensures.near, l.invariant.room, next);
      text =
          ap (λ t. 44 ∷ t) (c.write_value-at.ensures.written ∙ ap (λ t. value_text (get_or values i None) ++ t) mark)
          ∙ value_more values i l.mark (drop l.at l.bytes) after (omega (arith, next, l.invariant.inside))
          (l.invariant.text ∙ ap (λ k. others_text value_text (drop k values) ++ after) (sym next));
    }

pub returns-clause-written : goal.returns-clause-written
returns-clause-written c =
    let l = c.loop-i in
    let values = c.args.values.now in
    let after = drop c.args.end c.args.bytes.now in
    let all : l.i ≡ 0 = omega (arith, c.loop-i-test.false) in
    line_whole values l.mark (drop l.at l.bytes) after c.requires.some
    (l.invariant.text ∙ ap (λ k. others_text value_text (drop k values) ++ 10 ∷ after) all)
