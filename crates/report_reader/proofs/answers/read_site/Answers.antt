use Rattle.report_reader.specs.declared.lists.Listing.{Listing}
use Rattle.report_reader.specs.Kinds.{both}
use Rattle.report_reader.specs.Things.{members, branches, site_kind}
use Rattle.report_reader.proofs.Both.{both_read}
use Rattle.report_reader.proofs.Parts as parts
use Rattle.report_reader.proofs.answers.read_site.Goals as goal

pub returns-clause-read : goal.returns-clause-read
returns-clause-read c = rw (c.new.ensures, c.new-2.ensures) (both_read c.args.model.now c.requires.names (site_kind) (both (members c.args.model.now Listing.LeftOut) (both (members c.args.model.now Listing.Enforced) (branches c.args.model.now))) (parts.left_out_behind c.args.model.now c.requires.names) c.args.cursor.now c.read_kind-kind.new.cursor c.read_branches-path.new.cursor c.read_kind-kind.result (c.read_members-left.result.items, (c.read_members-enforced.result.items, c.read_branches-path.result)) c.read_kind-kind.ensures.read c.read_kind-kind.ensures.stands (both_read c.args.model.now c.requires.names (members c.args.model.now Listing.LeftOut) (both (members c.args.model.now Listing.Enforced) (branches c.args.model.now)) (parts.enforced_behind c.args.model.now c.requires.names) c.read_kind-kind.new.cursor c.read_members-left.new.cursor c.read_branches-path.new.cursor c.read_members-left.result.items (c.read_members-enforced.result.items, c.read_branches-path.result) c.read_members-left.ensures.read c.read_members-left.ensures.stands (both_read c.args.model.now c.requires.names (members c.args.model.now Listing.Enforced) (branches c.args.model.now) (parts.branches_behind c.args.model.now c.requires.names) c.read_members-left.new.cursor c.read_members-enforced.new.cursor c.read_branches-path.new.cursor c.read_members-enforced.result.items c.read_branches-path.result c.read_members-enforced.ensures.read c.read_members-enforced.ensures.stands c.read_branches-path.ensures.read c.read_branches-path.ensures.stands) c.read_branches-path.ensures.stands) c.read_branches-path.ensures.stands)
