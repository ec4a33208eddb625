-- What search doesn't prove of `advance`: the clause `string` and the clause `read`, by lemmas of `Advancing`.
use Rattle.std.proofs.Common.{◌≤◌, length, sym, ap, ◌∙◌, subst, arith}
use Rattle.journal.specs.Frames.{head_length}
use Rattle.journal.specs.Reading.{HasRead, ahead}
use Rattle.journal.proofs.Advancing.{goes_on, header_stays, none_fits, nothing_read}
use Rattle.journal.proofs.reader.StringReader.advance.Goals as goal

pub returns-then-octets-self-clause-string : goal.returns-then-octets-self-clause-string
returns-then-octets-self-clause-string g c =
    let image = g.D.Device.seen c.args.device.now in
    let mid = c.fill.new.self in
    let h : HasRead mid image = subst (HasRead mid) c.fill.ensures.seen c.in_ok-fill.ensures.read in
    nothing_read c.args.self.now mid image c.fill.ensures.end
    (none_fits mid image h (omega (arith, ap length c.ahead.ensures, c.in-Some.ensures.header))
    (omega (arith, c.in-Some.ensures.some, ap head_length c.ahead.ensures, h.size, c.if-octets-self.true)))

pub returns-clause-string : goal.returns-clause-string
returns-clause-string g c =
    let image = g.D.Device.seen c.args.device.now in
    let mid = c.fill.new.self in
    let last = c.fill-2.new.self in
    let h : HasRead mid image = subst (HasRead mid) c.fill.ensures.seen c.in_ok-fill.ensures.read in
    let k : HasRead last image = subst (HasRead last) (c.fill-2.ensures.seen ∙ c.fill.ensures.seen)
    c.in_ok-fill-2.ensures.read in
    let ten : 10 ≤ length (ahead mid) = omega (arith, ap length c.ahead.ensures, c.in-Some.ensures.header) in
    let long : c.in-Some.octets ≤ length (ahead last) =
    omega (
      arith,
      c.in_ok-fill-2.ensures.filled,
      ap length c.fill.ensures.seen,
      h.size,
      c.if-octets-self.false,
    ) in
    let stays = header_stays mid last image h k c.fill-2.ensures.end ten (omega (arith, long, c.in-Some.ensures.some))
    in
    (goes_on c.take_frame.result c.args.self.now last c.take_frame.new.self image k (c.fill-2.ensures.end
    ∙ c.fill.ensures.end)
    (omega (arith, long, stays, c.in-Some.ensures.some, ap head_length c.ahead.ensures)) c.take_frame.ensures).string

pub returns-clause-read : goal.returns-clause-read
returns-clause-read g c =
    let image = g.D.Device.seen c.args.device.now in
    let mid = c.fill.new.self in
    let last = c.fill-2.new.self in
    let h : HasRead mid image = subst (HasRead mid) c.fill.ensures.seen c.in_ok-fill.ensures.read in
    let k : HasRead last image = subst (HasRead last) (c.fill-2.ensures.seen ∙ c.fill.ensures.seen)
    c.in_ok-fill-2.ensures.read in
    let ten : 10 ≤ length (ahead mid) = omega (arith, ap length c.ahead.ensures, c.in-Some.ensures.header) in
    let long : c.in-Some.octets ≤ length (ahead last) =
    omega (
      arith,
      c.in_ok-fill-2.ensures.filled,
      ap length c.fill.ensures.seen,
      h.size,
      c.if-octets-self.false,
    ) in
    let stays = header_stays mid last image h k c.fill-2.ensures.end ten (omega (arith, long, c.in-Some.ensures.some))
    in
    subst (HasRead c.take_frame.new.self) (sym (c.fill-2.ensures.seen ∙ c.fill.ensures.seen))
    (goes_on c.take_frame.result c.args.self.now last c.take_frame.new.self image k (c.fill-2.ensures.end
    ∙ c.fill.ensures.end)
    (omega (arith, long, stays, c.in-Some.ensures.some, ap head_length c.ahead.ensures)) c.take_frame.ensures).read
