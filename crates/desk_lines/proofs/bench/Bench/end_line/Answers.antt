-- With the line counted there is room still (next_ready). is_readable's answer is the test of line_ended: by ended_read the promise is
-- read_line's, by ended_not it is unread's.
use lib.ListN.{length}
use Rattle.desk_rules.proofs.DeskLaws.{next_ready, ended_read, ended_not}
use Rattle.desk_lines.proofs.bench.Bench.end_line.Goals as goal

pub returns-then-is_readable-clause-acts : goal.returns-then-is_readable-clause-acts
returns-then-is_readable-clause-acts c =
    let b = c.args.self.now in
    let C = b.collection.now in
    let line = c.args.line.now in
    let out = b.out.now in
    λ ready. rw (ended_read b.marks b.register.now b.guide.now C line out c.is_readable.ensures c.if-is_readable.true)
    (c.read_line.ensures.acts line (next_ready b.marks (length C) (length line) (length out) ready c.requires.1))

pub returns-clause-acts : goal.returns-clause-acts
returns-clause-acts c =
    let b = c.args.self.now in
    let C = b.collection.now in
    let line = c.args.line.now in
    let out = b.out.now in
    λ ready. rw (ended_not b.marks b.register.now b.guide.now C line out c.is_readable.ensures c.if-is_readable.false)
    (c.unread.ensures.acts line (next_ready b.marks (length C) (length line) (length out) ready c.requires.1))
