-- What the getters read is what the rows hold.
use Rattle.std.proofs.Common.{◌≡◌, ◌∙◌, ap, ap₂}
use Rattle.std.specs.Prelude.{codes, option_map}
use Rattle.clap.specs.Words.{found_of}
use Rattle.clap.proofs.WalkLemmas.{first_value-rows, one_text-rows}
use Rattle.bw_program.specs.Words.{Asked, is_stop}
use Rattle.bw_program.proofs.Requests.{flag_is, stop_is}
use Rattle.bw_program.proofs.request.request_in.Goals as goal

pub returns : goal.returns
returns c asked h =
    let found = found_of c.args.matches.now in
    let script : option_map (λ s. s.now) c.get_str.result ≡ asked.script = c.get_str.ensures ∙ (first_value-rows found (codes "script") ∙ h.0) in
    let flag : c.get_flag.result ≡ asked.stop = flag_is _ asked.stop c.get_flag.result c.get_flag.ensures.value c.get_flag.ensures.other (one_text-rows found (codes "stop") ∙ h.1) in
    let stop : is_stop c.on_error.result ≡ asked.stop = ap is_stop c.on_error.ensures ∙ (stop_is _ ∙ flag) in
    let both = ap₂ (λ s p. let a : Asked = record { stop = s; script = p } in a) stop script in
    both
