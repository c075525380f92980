-- Without room nothing is done (served_not), and with room the tests are those of fed, in its order. A desk that has stopped is silent
-- (said_laid), another byte is type_byte's promise, and a line that ends is end_line's, on a bench that has its room (room).
use Rattle.std.proofs.Common.{refl, sym, ◌∙◌, rules, []}
use lib.ListN.{length}
use Rattle.desk_rules.specs.Served.{bench_of}
use Rattle.desk_rules.specs.Desk.{fed}
use Rattle.desk_rules.proofs.DeskLaws.{room, served_ready, served_not, said_laid, goes_on, fed_stopped, fed_newline, fed_typed}
use Rattle.desk_lines.proofs.desk.feed.Goals as goal

pub returns-then-not-is_ready : goal.returns-then-not-is_ready
returns-then-not-is_ready c =
    rw (served_not (λ d. fed d c.args.b) c.args.m
    (bench_of c.args.register.now c.args.guide.now c.args.collection.now c.args.line.now c.args.out.now)
    c.is_ready.ensures c.if-not-is_ready.true) (refl, (refl, (refl, (refl, (refl, refl)))))

pub returns-then-has_stopped : goal.returns-then-has_stopped
returns-then-has_stopped c =
    let m = c.args.m in
    let register = c.args.register.now in
    let guide = c.args.guide.now in
    let collection = c.args.collection.now in
    let line = c.args.line.now in
    let out = c.args.out.now in
    let ready = sym c.is_ready.ensures ∙ c.if-not-is_ready.false in
    rw (
      served_ready (λ d. fed d c.args.b) m (bench_of register guide collection line out) c.is_ready.ensures c.if-not-is_ready.false,
      fed_stopped m register guide collection line out c.has_stopped.ensures c.args.b c.if-has_stopped.true,
    )
    (said_laid m register guide collection line out ready [] out 0 (refl, refl))

pub type_byte-requires : goal.type_byte-requires
type_byte-requires c =
    let ready = sym c.is_ready.ensures ∙ c.if-not-is_ready.false in
    (room c.args.m (length c.args.collection.now) (length c.args.line.now) (length c.args.out.now) ready).line

pub returns-then-b-ne10 : goal.returns-then-b-ne10
returns-then-b-ne10 c =
    let m = c.args.m in
    let register = c.args.register.now in
    let guide = c.args.guide.now in
    let collection = c.args.collection.now in
    let line = c.args.line.now in
    let out = c.args.out.now in
    let ready = sym c.is_ready.ensures ∙ c.if-not-is_ready.false in
    rw (
      served_ready (λ d. fed d c.args.b) m (bench_of register guide collection line out) c.is_ready.ensures c.if-not-is_ready.false,
      fed_typed m register guide collection line out c.has_stopped.ensures c.args.b c.if-has_stopped.false c.if-b-ne10.true,
    )
    (c.type_byte.ensures register guide collection out ready)

pub invariant_of-bench : goal.invariant_of-bench
invariant_of-bench c =
    let ready = sym c.is_ready.ensures ∙ c.if-not-is_ready.false in
    let r = room c.args.m (length c.args.collection.now) (length c.args.line.now) (length c.args.out.now) ready in
    record { lines = r.lines; typed = r.typed; collected = r.collected; room_to_collect = r.collection; room_to_say = r.out }

pub end_line-said-requires : goal.end_line-said-requires
end_line-said-requires c =
    let m = c.args.m in
    let ready = sym c.is_ready.ensures ∙ c.if-not-is_ready.false in (
      (room m (length c.args.collection.now) (length c.args.line.now) (length c.args.out.now) ready).line,
      goes_on m.lines c.has_stopped.ensures c.if-has_stopped.false,
    )

pub returns : goal.returns
returns c =
    let m = c.args.m in
    let register = c.args.register.now in
    let guide = c.args.guide.now in
    let collection = c.args.collection.now in
    let line = c.args.line.now in
    let out = c.args.out.now in
    let ready = sym c.is_ready.ensures ∙ c.if-not-is_ready.false in
    let laid = c.end_line-said.ensures.acts ready in
    rw (
      served_ready (λ d. fed d c.args.b) m (bench_of register guide collection line out) c.is_ready.ensures c.if-not-is_ready.false,
      fed_newline m register guide collection line out c.has_stopped.ensures c.args.b c.if-has_stopped.false c.if-b-ne10.false,
    )
    (search (rules, laid))
