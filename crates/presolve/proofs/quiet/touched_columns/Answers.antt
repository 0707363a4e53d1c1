use Rattle.std.proofs.Common.{◌≡◌, ◌∙◌, sym, ap, false, length, List, Bool, ◌++◌, map, replicate, take, drop}
use Rattle.std.proofs.Math.Seq.{take-append_seam}
use Rattle.certs.specs.System.{Limits}
use Rattle.presolve.specs.Quiet.{marked}
use Rattle.presolve.proofs.Quieted.{marked_length}
use Rattle.presolve.proofs.Reached.{all_alike}
use Rattle.presolve.proofs.quiet.touched_columns.Goals as goal

pub returns : goal.returns
returns c =
    let columns = c.args.system.now.columns in
    let none : List Bool = map (λ (k : Limits). false) columns in
    let new = c.mark_columns.new.marks in
    let rest = drop (length new) c.in_ok-columns.columns.items in
    let count : c.len.result ≡ length columns = c.len.ensures ∙ c.system.inside.columns.ok.0 ∙ ap (λ z. length z.columns) c.system.view_is in
    let first : c.in_ok-columns.columns.items ≡ none = c.in_ok-columns.ensures.items_if_clones_equal (λ y h. h) ∙ ap (λ n. replicate n false) count ∙ all_alike false columns in
    let made : new ≡ marked c.args.changed.now none = c.mark_columns.ensures ∙ ap (marked c.args.changed.now) (c.deref_mut.ensures.value ∙ first) in
    let long : c.in_ok-columns.columns.len ≡ length new = c.in_ok-columns.columns.ok.0 ∙ ap length first ∙ sym (marked_length c.args.changed.now none) ∙ sym (ap length made) in
    ap (λ n. take n (new ++ rest)) long ∙ take-append_seam new rest ∙ made
