-- `replace_in` meets its contract: what was measured decides between 13 and writing, and is the answer.
use Rattle.std.proofs.Common.{arith, rules, ◌∙◌, ◌≡◌, ◌+◌, List, ℕ, length}
use Rattle.paper.proofs.replacing.ScanLengths.{replace_all_short}
use Rattle.turns.specs.Accepted.{pieces_of}
use Rattle.replacer.specs.Given.{tree_of, whole_of}
use Rattle.machine.proofs.Only.{ready_as}
use Rattle.replacer.proofs.Scanning.{ready_accepts}
use Rattle.replacer.proofs.Calling.{refuses_output, replaces, written_whole}
use Rattle.replacer.proofs.scans.Scan.replace_in.Goals as goal

pub append_to-scanned-requires-clause-room : goal.append_to-scanned-requires-clause-room
append_to-scanned-requires-clause-room c =
    let given = c.args.self in
    let short = replace_all_short (tree_of c.args.self.machine.pattern.now) c.args.self.sources.template.now c.args.self.sources.line.now (pieces_of c.args.self.sources.template.now) given.sources.right given.sources.short in
    omega (arith, short.0)

pub returns-then-buffer-length : goal.returns-then-buffer-length
returns-then-buffer-length c =
    let given = c.args.self in
    let output = (whole_of given.machine.pattern.now given.sources.template.now given.sources.line.now).output in
    let measured : c.append_to-scanned.new.output.bytes ≡ 0 + length output = c.append_to-scanned.ensures.written in
    rw c.at.ensures
    (refuses_output given.machine.pattern.now given.sources.template.now given.sources.line.now c.args.buffer.now (ready_accepts (ready_as given.built given.machine.ready))
    given.sources.right c.requires.low given.sources.short (omega (arith, c.if-buffer-length.true, measured)))

-- a buffer that is known by what stands behind another name
over : {after now whole : List ℕ} → now ≡ whole → after ≡ now → after ≡ whole
over wrote same = same ∙ wrote

pub returns : goal.returns
returns c =
    let given = c.args.self in
    let output = (whole_of c.args.self.machine.pattern.now c.args.self.sources.template.now c.args.self.sources.line.now).output in
    let measured : c.append_to-scanned.new.output.bytes ≡ 0 + length output = c.append_to-scanned.ensures.written in
    replaces c.args.self.machine.pattern.now c.args.self.sources.template.now c.args.self.sources.line.now c.args.buffer.now (ready_accepts (ready_as given.built given.machine.ready)) given.sources.right c.requires.low given.sources.short
    (omega (arith, c.if-buffer-length.false, measured)) _ (omega (arith, measured)) c.append_to-scanned.ensures.counts.replaced
    c.append_to-scanned.ensures.counts.stepped _ (over (written_whole c.append_to.ensures.written.0) (search rules))
