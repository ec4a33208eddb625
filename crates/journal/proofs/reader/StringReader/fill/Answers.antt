-- What search doesn't prove of `fill`: the clause `read` and the clause `filled`, by lemmas of `Advancing`.
use Rattle.std.proofs.Common.{◌+◌, ◌-◌, ◌++◌, length, take, drop, ap, ◌∙◌, arith}
use Rattle.journal.proofs.Advancing.{filled}
use Rattle.journal.proofs.reader.StringReader.fill.Goals as goal

pub returns-clause-read : goal.returns-clause-read
returns-clause-read g c =
    (filled c.args.self.now c.join.new.self (g.D.Device.seen c.args.device.now) (g.D.Device.seen c.join.new.device)
    (length c.ahead.result.now) c.min-more.result c.args.wanted (c.args.self.now.size - c.args.self.now.end -
    length c.ahead.result.now)
    c.requires.read c.join.ensures.seen (ap length c.ahead.ensures) (c.join.ensures.end ∙ c.leave_string.ensures.end)
    (c.join.ensures.size ∙ c.leave_string.ensures.size) c.join.ensures.string
    (c.in_ok-join.ensures.octets ∙ (λ i. c.leave_string.ensures.window i ++ take c.min-more.result
    (drop (c.leave_string.ensures.end i + length c.ahead.result.now) (g.D.Device.seen c.args.device.now))))
    (omega arith) (omega arith) (omega arith)).read

pub returns-clause-filled : goal.returns-clause-filled
returns-clause-filled g c =
    omega (
      arith,
      c.join.ensures.end,
      c.leave_string.ensures.end,
      (filled c.args.self.now c.join.new.self (g.D.Device.seen c.args.device.now) (g.D.Device.seen c.join.new.device)
          (length c.ahead.result.now) c.min-more.result c.args.wanted (c.args.self.now.size - c.args.self.now.end -
          length c.ahead.result.now)
          c.requires.read c.join.ensures.seen (ap length c.ahead.ensures) (c.join.ensures.end
          ∙ c.leave_string.ensures.end) (c.join.ensures.size ∙ c.leave_string.ensures.size) c.join.ensures.string
          (c.in_ok-join.ensures.octets ∙ (λ i. c.leave_string.ensures.window i ++ take c.min-more.result
          (drop (c.leave_string.ensures.end i + length c.ahead.result.now) (g.D.Device.seen c.args.device.now))))
          (omega arith) (omega arith) (omega arith)).enough,
    )
