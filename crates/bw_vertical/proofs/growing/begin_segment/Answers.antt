use Rattle.std.proofs.Common.{arith, ap, ◌*◌, ◌/◌, ◌≡◌}
use Rattle.bw_code.specs.Units.{segments_of}
use Rattle.bw_vertical.specs.Storage.{capacities, planes_in}
use Rattle.bw_vertical.proofs.Rooms.{room_at}
use Rattle.bw_vertical.proofs.growing.begin_segment.Goals as goal

pub push_segments-requires-clause-room : goal.push_segments-requires-clause-room
push_segments-requires-clause-room c g h =
    let whole : segments_of 256 c.args.len ≡ c.args.len / 256 = omega arith in
    let product = ap (λ s. s * planes_in c.args.k g) whole in
    omega (arith, c.requires.planes.sizes g h, product, room_at c.args.k c.args.len (capacities c.args.groups.now.items) c.requires.room g h)
