-- What is written piece by piece.
use Rattle.std.proofs.Common.{refl, sym, ◌∙◌, ap, ℕ, List, [], ◌++◌, append_assoc, append-nil, Result, Ok, Err}
use Rattle.std.specs.Prelude.{⊤, OnOk}
use Rattle.std.specs.declared.alloc.AllocError.{AllocError}
use Rattle.std.proofs.lemmas.Grind.{flat_map-append}
use Rattle.std.proofs.lemmas.List.Sums.{fold-append}
use Rattle.report_page.specs.Pieces.{Place, piece_bytes, bytes_of, behind_piece, behind_pieces, IsMarkedUp}

-- nothing
pub nothing : (a : List ℕ) → IsMarkedUp a a
nothing a = record { pieces = []; bytes = sym (append-nil a); closed = refl }

-- one part after another
pub more : (a b c : List ℕ) → IsMarkedUp a b → IsMarkedUp b c → IsMarkedUp a c
more a b c h k = record {
  pieces = h.pieces ++ k.pieces;
  bytes =
      k.bytes
      ∙ (ap (λ t. t ++ bytes_of k.pieces) h.bytes
      ∙ (append_assoc a (bytes_of h.pieces) (bytes_of k.pieces) ∙ ap (λ t. a ++ t) (sym (flat_map-append piece_bytes h.pieces k.pieces))));
  closed = fold-append behind_piece Place.Running h.pieces k.pieces ∙ (ap (λ p. behind_pieces p k.pieces) h.closed ∙ k.closed);
}

-- one part after another, where the later is perhaps refused
pub then_more : (a b c : List ℕ) (result : Result ⊤ AllocError) → IsMarkedUp a b → OnOk result (IsMarkedUp b c) → OnOk result (IsMarkedUp a c)
then_more a b c (Ok done) h k = more a b c h k
then_more a b c (Err refused) h k = tt
