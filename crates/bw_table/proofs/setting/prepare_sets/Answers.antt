use Rattle.std.proofs.Common.{◌≡◌, ◌+◌, ◌-◌, ◌<◌, arith, drop, length, length-drop, get_or, subst, take, None}
use Rattle.std.proofs.lemmas.List.{get_or_default, take_all}
use Rattle.bw_table.specs.Sets.{IsReady}
use Rattle.bw_table.specs.declared.setting.SetTo.TheVariants.{Value}
use Rattle.bw_table.proofs.Readied.{kept_chain}
use Rattle.bw_table.proofs.Written.{gathered_kept, more_ready}
use Rattle.bw_table.proofs.setting.prepare_sets.Goals as goal

pub loop-n-preserved : goal.loop-n-preserved
loop-n-preserved c =
    let n = c.loop-n.n in
    let sets = c.args.sets.now in
    let inside : n < length sets = omega arith in
    let columns = c.loop-n.columns.items in
    let next = c.prepare_set.new.columns.items in
    let few : length c.loop-n.changes.items ≡ n = omega (arith, c.loop-n.invariant.count, c.loop-n.changes.ok.0) in
    let later : take (length sets - (n + 1)) (drop (n + 1) sets) ≡ drop (n + 1) sets = take_all (length sets - (n + 1)) (drop (n + 1) sets) (omega (arith, length-drop (n + 1) sets)) in
    record {
      kept = kept_chain c.prepare_set.ensures.kept c.loop-n.invariant.kept;
      count = omega (arith, c.in_ok-push.ensures.len, c.loop-n.invariant.count);
      ready = rw c.in_ok-push.ensures.items (more_ready next columns c.prepare_set.ensures.kept c.args.found.now sets c.loop-n.changes.items c.in_ok-change.change n few c.loop-n.invariant.ready (λ s. rw (get_or_default sets n s (0, Value None) inside) (subst (λ later. IsReady next c.args.found.now later (get_or sets n (0, Value None)) c.in_ok-change.change) later c.in_ok-change.ensures.ready)));
    }

pub prepare_set-requires-clause-named : goal.prepare_set-requires-clause-named
prepare_set-requires-clause-named c = omega (arith, c.requires.named c.loop-n.n (0, Value None) (omega arith), c.loop-n.invariant.kept.count, c.args.columns.now.ok.0, c.loop-n.columns.ok.0)

pub prepare_set-requires-clause-held : goal.prepare_set-requires-clause-held
prepare_set-requires-clause-held c d =
    let n = c.loop-n.n in
    let here = get_or c.args.sets.now n (0, Value None) in
    let kept = c.loop-n.invariant.kept in
    rw (gathered_kept c.loop-n.columns.items c.args.columns.now.items kept c.args.found.now here.1, (kept.each here.0 d).layout) (c.requires.held n (0, Value None) (omega arith) d)
