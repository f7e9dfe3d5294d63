use Rattle.std.proofs.Common.{ap, ◌∙◌, arith}
use lib.ListN.{length-map}
use Rattle.scripted.specs.ScriptedMeans.{state_of}
use Rattle.scripted.specs.State.{counted}
use Rattle.scripted.proofs.Strikes.{joined_end, joins}
use Rattle.scripted.proofs.scripted.calls.ScriptedCarrier.post.Goals as goal

pub returns : goal.returns
returns c =
    let fits = c.in_ok-frame.ensures in
    let e = c.strike.ensures ∙ ap (counted (state_of c.args.self.now)) (joined_end c.args.self.now.waiting.frames.items _ c.in_ok-frame.frame c.args.frame.now c.push.ensures.items fits.1) in
    record { rule = joins (state_of c.args.self.now) c.args.frame.now (state_of c.strike.new.self) fits.0 (rw length-map (omega arith)) e; exact = e }
