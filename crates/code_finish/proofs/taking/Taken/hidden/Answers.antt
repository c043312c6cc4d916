use Rattle.std.proofs.Common.{arith}
use Rattle.field_rows.proofs.ElementLaws.{room_in}
use Rattle.code_finish.proofs.taking.Taken.hidden.Goals as goal

pub push_elements-requires-clause-inside : goal.push_elements-requires-clause-inside
push_elements-requires-clause-inside g c =
    let taken = c.args.self.now in
    room_in taken.field _ taken.rate (omega arith) taken.low_rate
