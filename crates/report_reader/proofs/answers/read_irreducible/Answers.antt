use Rattle.std.proofs.Common.{◌∙◌, sym, ap, length, List}
use Rattle.std.proofs.lemmas.List.Elements.{All-weaker}
use Rattle.lp_model.specs.declared.members.Member.{Member}
use Rattle.lp_model.specs.MemberSets.{SetValue, IsMemberFor, empty_set}
use Rattle.report_text.specs.Form.{IsNamedMember}
use Rattle.std.proofs.Common.{true}
use Rattle.std.specs.Prelude.{zip}
use Rattle.report_text.specs.declared.phrases.Phrase.{Phrase}
use Rattle.report_reader.specs.Kinds.{word, both}
use Rattle.report_reader.specs.Things.{proof, witnessed, tail}
use Rattle.report_reader.proofs.Both.{both_read}
use Rattle.report_reader.proofs.Passing.{begun_before}
use Rattle.report_reader.proofs.Parts as parts
use Rattle.report_reader.proofs.answers.read_irreducible.Goals as goal

pub returns-clause-read : goal.returns-clause-read
returns-clause-read c = rw c.new.ensures (both_read c.args.model.now c.requires.names (word Phrase.Irreducible) (both (witnessed c.args.model.now) (both (proof c.args.model.now true) (both (tail c.args.model.now c.args.method) (word Phrase.End)))) (parts.witnessed_behind c.args.model.now c.requires.names c.args.method) c.args.cursor.now c.pass_word.new.self c.pass_word-2.new.self tt ((zip c.read_witnessed-members.result.0.items c.read_witnessed-members.result.1), ((tt, c.read_proof-proof.result.nodes), (c.read_tail-rounds.result, tt))) c.pass_word.ensures.read c.pass_word.ensures.stands (both_read c.args.model.now c.requires.names (witnessed c.args.model.now) (both (proof c.args.model.now true) (both (tail c.args.model.now c.args.method) (word Phrase.End))) (parts.proof_behind_witnessed c.args.model.now c.requires.names c.args.method) c.pass_word.new.self c.read_witnessed-members.new.cursor c.pass_word-2.new.self (zip c.read_witnessed-members.result.0.items c.read_witnessed-members.result.1) ((tt, c.read_proof-proof.result.nodes), (c.read_tail-rounds.result, tt)) c.read_witnessed-members.ensures.read c.read_witnessed-members.ensures.stands (both_read c.args.model.now c.requires.names (proof c.args.model.now true) (both (tail c.args.model.now c.args.method) (word Phrase.End)) (parts.tail_behind c.args.model.now c.requires.names c.args.method) c.read_witnessed-members.new.cursor c.read_proof-proof.new.cursor c.pass_word-2.new.self (tt, c.read_proof-proof.result.nodes) (c.read_tail-rounds.result, tt) c.read_proof-proof.ensures.read c.read_proof-proof.ensures.stands (both_read c.args.model.now c.requires.names (tail c.args.model.now c.args.method) (word Phrase.End) (parts.end_behind_tail c.args.model.now c.requires.names c.args.method) c.read_proof-proof.new.cursor c.read_tail-rounds.new.cursor c.pass_word-2.new.self c.read_tail-rounds.result tt c.read_tail-rounds.ensures.read c.read_tail-rounds.ensures.stands c.pass_word-2.ensures.read c.pass_word-2.ensures.stands) c.pass_word-2.ensures.stands) c.pass_word-2.ensures.stands) c.pass_word-2.ensures.stands)

pub returns-clause-set : goal.returns-clause-set
returns-clause-set c = c.new.ensures ∙ ap (λ (ms : List Member). record (empty_set c.args.model.now) { members = ms }) (sym (ap (λ (s : SetValue). s.members) c.new.ensures))

pub returns-clause-each : goal.returns-clause-each
returns-clause-each c = λ q f.
    let m = c.args.model.now in
    let n = c.requires.names in
    let a = begun_before m n (word Phrase.End) c.read_tail-rounds.new.cursor c.pass_word-2.new.self tt q f c.pass_word-2.ensures.read.reading in
    let b = begun_before m n (tail m c.args.method) c.read_proof-proof.new.cursor c.read_tail-rounds.new.cursor c.read_tail-rounds.result a.0 a.1 c.read_tail-rounds.ensures.read.reading in
    let d = begun_before m n (proof m true) c.read_witnessed-members.new.cursor c.read_proof-proof.new.cursor (tt, c.read_proof-proof.result.nodes) b.0 b.1 c.read_proof-proof.ensures.read.reading in
    c.read_witnessed-members.ensures.each d.0 d.1 ∙ ap (λ (s : SetValue). length s.members) (sym c.new.ensures)

pub new-requires-clause-possible : goal.new-requires-clause-possible
new-requires-clause-possible c = All-weaker (IsNamedMember c.args.model.now) (IsMemberFor (length c.args.model.now.rows) (length c.args.model.now.columns)) (λ m h. h.known) _ c.read_witnessed-members.ensures.form.named

pub new-requires-clause-in_order : goal.new-requires-clause-in_order
new-requires-clause-in_order c = c.read_witnessed-members.ensures.form.in_order
