use Rattle.std.proofs.Common.{sym, arith}
use Rattle.text_fields.proofs.FieldFaults.{fault-long, fault-empty, fault-comment, fault-foreign, fault-none}
use Rattle.text_fields.proofs.line_fields.fault_in.Goals.{then-line-via-then-line, then-line-via-else-line+then-bytes-line-eq42}
use Rattle.text_fields.proofs.line_fields.fault_in.Goals as goal

pub returns-then-line-gt-MOST_BYTES : goal.returns-then-line-gt-MOST_BYTES
returns-then-line-gt-MOST_BYTES c =
    let l = c.args.line.now in
    sym (fault-long c.args.bytes.now l.from l.to c.requires.in_order c.requires.within c.if-line-gt-MOST_BYTES.true)

pub returns-then-line : goal.returns-then-line
returns-then-line c =
    let l = c.args.line.now in
    elim c.then-line.branch [
      | then-line-via-then-line w ↦ sym (fault-empty c.args.bytes.now l.from l.to c.requires.in_order c.requires.within w.if-line.true)
      | then-line-via-else-line+then-bytes-line-eq42 w ↦
          sym (fault-comment c.args.bytes.now l.from l.to c.requires.in_order c.requires.within c.if-line-gt-MOST_BYTES.false (let n = w.if-line.false in let a = c.requires.in_order in omega arith) w.if-bytes-line-eq42.true)
    ]

pub returns-then-first_foreign-line : goal.returns-then-first_foreign-line
returns-then-first_foreign-line c =
    let l = c.args.line.now in
    sym (fault-foreign c.args.bytes.now l.from l.to c.requires.in_order c.requires.within c.if-line-gt-MOST_BYTES.false (omega arith) c.if-bytes-line-eq42.false (omega arith))

pub returns : goal.returns
returns c =
    let l = c.args.line.now in
    sym (fault-none c.args.bytes.now l.from l.to c.requires.in_order c.requires.within c.if-line-gt-MOST_BYTES.false (omega arith) c.if-bytes-line-eq42.false (omega arith))
