use Rattle.std.proofs.Common.{rules, arith, Some, None}
use Rattle.scripted.specs.ScriptedMeans.{state_of}
use Rattle.scripted.proofs.Strikes.{first_taken, gathers, nothing_taken}
use Rattle.scripted.proofs.scripted.calls.ScriptedCarrier.collect.Goals as goal

pub returns-in_default : goal.returns-in_default
returns-in_default c =
    let e = nothing_taken c.strike.new.self c.pop_at.new.self.items _ c.args.buffer.now c.strike.ensures (search rules) (search rules) in
    record { rule = gathers (state_of c.args.self.now) c.args.buffer.now None _ c.args.buffer.now (omega arith) e.0 e.1; exact = e }

pub returns : goal.returns
returns c =
    let filled = c.in_ok-fill.ensures in
    let e = first_taken c.strike.new.self c.pop_at.new.self.items _ c.args.buffer.now c.in-Some.frame c.in_ok-fill.field-0 c.fill.new.buffer c.strike.ensures (search rules) (search rules) (search rules) (search rules) in
    record { rule = gathers (state_of c.args.self.now) c.args.buffer.now (Some c.in_ok-fill.field-0) _ c.fill.new.buffer (omega arith) e.0 e.1; exact = e }
