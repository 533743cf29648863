use Rattle.std.proofs.Common.{arith, refl}
use Rattle.bw_vertical.proofs.Exchanging.{IsStriped, bits_in, stage_turns, stripes_exchange, turned}
use Rattle.bw_vertical.proofs.bytes.by_rows.Goals as goal

stripes_4 : IsStriped 4 1085102592571150095
stripes_4 = refl

stripes_2 : IsStriped 2 3689348814741910323
stripes_2 = refl

stripes_1 : IsStriped 1 6148914691236517205
stripes_1 = refl

stripes_32 : IsStriped 32 4294967295
stripes_32 = refl

stripes_16 : IsStriped 16 281470681808895
stripes_16 = refl

stripes_8 : IsStriped 8 71777214294589695
stripes_8 = refl

pub exchange-words-requires-clause-mask : goal.exchange-words-requires-clause-mask
exchange-words-requires-clause-mask c = stripes_exchange 4 1085102592571150095 stripes_4 (omega arith)

pub exchange-words-requires-2-clause-mask : goal.exchange-words-requires-2-clause-mask
exchange-words-requires-2-clause-mask c = stripes_exchange 2 3689348814741910323 stripes_2 (omega arith)

pub exchange-words-requires-3-clause-mask : goal.exchange-words-requires-3-clause-mask
exchange-words-requires-3-clause-mask c = stripes_exchange 1 6148914691236517205 stripes_1 (omega arith)

pub exchange-words-requires-4-clause-mask : goal.exchange-words-requires-4-clause-mask
exchange-words-requires-4-clause-mask c = stripes_exchange 32 4294967295 stripes_32 (omega arith)

pub exchange-words-requires-5-clause-mask : goal.exchange-words-requires-5-clause-mask
exchange-words-requires-5-clause-mask c = stripes_exchange 16 281470681808895 stripes_16 (omega arith)

pub exchange-requires-clause-mask : goal.exchange-requires-clause-mask
exchange-requires-clause-mask c = stripes_exchange 8 71777214294589695 stripes_8 (omega arith)

pub returns : goal.returns
returns c =
    let words = c.args.words.now in
    let by4 = stage_turns 4 1085102592571150095 stripes_4 c.args.words.now c.exchange-words.result c.exchange-words.ensures in
    let by2 = stage_turns 2 3689348814741910323 stripes_2 c.exchange-words.result c.exchange-words-2.result c.exchange-words-2.ensures in
    let by1 = stage_turns 1 6148914691236517205 stripes_1 c.exchange-words-2.result c.exchange-words-3.result c.exchange-words-3.ensures in
    let by32 = stage_turns 32 4294967295 stripes_32 c.exchange-words-3.result c.exchange-words-4.result c.exchange-words-4.ensures in
    let by16 = stage_turns 16 281470681808895 stripes_16 c.exchange-words-4.result c.exchange-words-5.result c.exchange-words-5.ensures in
    let by8 = stage_turns 8 71777214294589695 stripes_8 c.exchange-words-5.result c.exchange.result c.exchange.ensures in
    turned (bits_in words) (bits_in c.exchange-words.result) (bits_in c.exchange-words-2.result) (bits_in c.exchange-words-3.result) (bits_in c.exchange-words-4.result) (bits_in c.exchange-words-5.result) (bits_in c.exchange.result) by4 by2 by1 by32 by16 by8
