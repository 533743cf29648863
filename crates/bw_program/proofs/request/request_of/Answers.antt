use Rattle.std.proofs.Common.{◌≡◌, ◌∙◌, ap, sym, subst, map}
use Rattle.std.specs.Prelude.{Err}
use Rattle.clap.specs.Words.{kind_of}
use Rattle.bw_program.specs.Command.{fault_by}
use Rattle.bw_program.specs.Words.{Answers, asked_by}
use Rattle.bw_program.specs.declared.request.WordsFault.{WordsFault}
use Rattle.bw_program.proofs.Requests.{accepted, refused}
use Rattle.bw_program.proofs.request.request_of.Goals as goal

pub returns-in-Ok-try_get_matches_from : goal.returns-in-Ok-try_get_matches_from
returns-in-Ok-try_get_matches_from g c =
    let parsed = c.in-Ok-try_get_matches_from in
    accepted _ _ parsed.matches _ c.in-Ok.ensures parsed.ensures.kinds parsed.ensures.matches c.request_in.ensures

pub returns-in-Err : goal.returns-in-Err
returns-in-Err g c =
    let fails = refused _ _ c.in-Err.error c.in-Ok.ensures c.in-Err.ensures.kinds in
    let why : c.fault_of.result ≡ fault_by (kind_of c.in-Err.error) = c.fault_of.ensures ∙ ap fault_by c.kind.ensures in
    subst (λ (f : WordsFault). Answers (asked_by (map g.S.AsStr.text c.args.words.now)) (Err f)) (sym why) fails
