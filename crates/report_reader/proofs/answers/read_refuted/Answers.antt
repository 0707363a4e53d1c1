use Rattle.std.proofs.Common.{◌∙◌, sym, ap, length, List}
use Rattle.std.proofs.lemmas.List.Elements.{All-weaker}
use Rattle.lp_model.specs.declared.members.Member.{Member}
use Rattle.lp_model.specs.MemberSets.{SetValue, IsMemberFor, empty_set}
use Rattle.report_text.specs.Form.{IsNamedMember}
use Rattle.report_text.specs.declared.phrases.Phrase.{Phrase}
use Rattle.report_reader.specs.declared.lists.Listing.{Listing}
use Rattle.report_reader.specs.Kinds.{word, both}
use Rattle.report_reader.specs.Things.{phrase_of, proof, members}
use Rattle.report_reader.proofs.Both.{both_read}
use Rattle.report_reader.proofs.Parts as parts
use Rattle.report_reader.proofs.answers.read_refuted.Goals as goal

pub returns-clause-read : goal.returns-clause-read
returns-clause-read c = rw c.new.ensures (both_read c.args.model.now c.requires.names (word (phrase_of c.args.word)) (both (members c.args.model.now Listing.Listed) (both (proof c.args.model.now c.args.splits) (word Phrase.End))) (parts.refuted_behind c.args.model.now c.requires.names (phrase_of c.args.word) c.args.splits) c.args.cursor.now c.pass_word.new.self c.pass_word-2.new.self tt (c.read_members-members.result.items, ((tt, c.read_proof-proof.result.nodes), tt)) c.pass_word.ensures.read c.pass_word.ensures.stands (both_read c.args.model.now c.requires.names (members c.args.model.now Listing.Listed) (both (proof c.args.model.now c.args.splits) (word Phrase.End)) (parts.proof_behind_members c.args.model.now c.requires.names c.args.splits) c.pass_word.new.self c.read_members-members.new.cursor c.pass_word-2.new.self c.read_members-members.result.items ((tt, c.read_proof-proof.result.nodes), tt) c.read_members-members.ensures.read c.read_members-members.ensures.stands (both_read c.args.model.now c.requires.names (proof c.args.model.now c.args.splits) (word Phrase.End) (parts.end_behind_proof c.args.model.now c.requires.names c.args.splits) c.read_members-members.new.cursor c.read_proof-proof.new.cursor c.pass_word-2.new.self (tt, c.read_proof-proof.result.nodes) tt c.read_proof-proof.ensures.read c.read_proof-proof.ensures.stands c.pass_word-2.ensures.read c.pass_word-2.ensures.stands) c.pass_word-2.ensures.stands) c.pass_word-2.ensures.stands)

pub returns-clause-set : goal.returns-clause-set
returns-clause-set c = c.new.ensures ∙ ap (λ (ms : List Member). record (empty_set c.args.model.now) { members = ms }) (sym (ap (λ (s : SetValue). s.members) c.new.ensures))

pub new-requires-clause-possible : goal.new-requires-clause-possible
new-requires-clause-possible c = All-weaker (IsNamedMember c.args.model.now) (IsMemberFor (length c.args.model.now.rows) (length c.args.model.now.columns)) (λ m h. h.known) _ c.read_members-members.ensures.form.named

pub new-requires-clause-in_order : goal.new-requires-clause-in_order
new-requires-clause-in_order c = c.read_members-members.ensures.form.in_order
