use Rattle.std.proofs.Common.{◌≡◌, ◌++◌, map, drop}
use Rattle.report_page.specs.Pieces.{piece_shown, bytes_of}
use Rattle.report_page.proofs.pieces.write.Given as goal

-- the pieces that are left complete the bytes
abbrev pub invariant-loop-piece : goal.invariant-loop-piece
invariant-loop-piece l = l.into.items ++ bytes_of (map piece_shown (drop l.piece-index l.pieces)) ≡ l.initial.into.items ++ bytes_of (map piece_shown l.pieces)
