use Rattle.std.proofs.Common.{ap, false, nat_lt, refl, true, ◌∙◌, ◌≡◌, Bool}
use Rattle.std.specs.Int.{from_bool}
use Rattle.bw_groups.proofs.Measured.{filled_more, still_filled}
use Rattle.bw_groups.proofs.measured_run.put_distance.Goals as goal

byte_there : (b : Bool) → nat_lt 0 (from_bool b) ≡ b
byte_there true = refl
byte_there false = refl

pub returns : goal.returns
returns c = record {
  put = λ base run value are fit far there. filled_more base run c.args.at c.args.out.now c.args.there.now are c.told-out c.told-there c.requires c.args.distance c.from.result value fit far (ap (nat_lt 0) c.from.ensures ∙ byte_there c.args.is_there ∙ there);
  keeps = λ base run are. still_filled base run c.args.at c.args.out.now c.args.there.now are c.told-out c.told-there c.requires c.args.distance c.from.result;
}
