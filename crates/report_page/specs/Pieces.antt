-- A page as a list of pieces, of which none but fixed bytes opens or closes a tag.
use Rattle.std.specs.Prelude.{◌≡◌, ℕ, ℤ, ◌==◌, cond, List, ◌++◌, fold, flat_map, decimal}
use Rattle.std.specs.Fmt.{signed_decimal}
use Rattle.rational.specs.Rational.{ℚ}
use Rattle.frac128.specs.Printed.{printed}
use Rattle.report_text.specs.Session.{session_at}
use Rattle.report_text.specs.History.{HistoryValue}
use Rattle.report_text.specs.declared.report.Command.{Command}
use Rattle.lp_model.specs.Program.{Program}
use Rattle.report_page.specs.declared.pages.TheConstants.{HEAD}
use Rattle.report_page.specs.declared.pieces.Piece.{Piece as Written}
use Rattle.report_page.specs.Escaping.{escaped}

-- ---- pieces
-- fixed bytes, a text of the model's, or a number, which has no bytes but digits, - and /
pub data Piece : Type 0 where
  Fixed : List ℕ → Piece
  Text : List ℕ → Piece
  Number : ℚ → Piece
  Whole : ℤ → Piece
  Count : ℕ → Piece

-- the bytes of a piece: a text is escaped
abbrev pub piece_bytes : Piece → List ℕ
piece_bytes (Piece.Fixed bytes) = bytes
piece_bytes (Piece.Text text) = escaped text
piece_bytes (Piece.Number q) = printed q
piece_bytes (Piece.Whole z) = signed_decimal z
piece_bytes (Piece.Count n) = decimal n

-- those of pieces, one after another
abbrev pub bytes_of : List Piece → List ℕ
bytes_of pieces = flat_map piece_bytes pieces

-- ---- places
-- in running text, in a tag that is open, or at no place of a page
pub data Place : Type 0 where
  Running : Place
  Tag : Place
  Nowhere : Place

-- where a byte leads: < opens a tag, and > closes the open one; neither stands where it does not
abbrev pub behind : Place → ℕ → Place
behind Place.Running b = cond (b == 60) Place.Tag (cond (b == 62) Place.Nowhere Place.Running)
behind Place.Tag b = cond (b == 62) Place.Running (cond (b == 60) Place.Nowhere Place.Tag)
behind Place.Nowhere b = Place.Nowhere

-- where bytes lead
abbrev pub behind_bytes : Place → List ℕ → Place
behind_bytes place bytes = fold behind place bytes

-- a text stands in running text alone, and leads nowhere else
abbrev pub behind_text : Place → Place
behind_text Place.Running = Place.Running
behind_text Place.Tag = Place.Nowhere
behind_text Place.Nowhere = Place.Nowhere

-- where a piece leads: a number stands anywhere, and keeps the place
abbrev pub behind_piece : Place → Piece → Place
behind_piece place (Piece.Fixed bytes) = behind_bytes place bytes
behind_piece place (Piece.Text text) = behind_text place
behind_piece place (Piece.Number q) = place
behind_piece place (Piece.Whole z) = place
behind_piece place (Piece.Count n) = place

-- where pieces lead
abbrev pub behind_pieces : Place → List Piece → Place
behind_pieces place pieces = fold behind_piece place pieces

-- fixed words and markup that lead from running text to running text
abbrev pub IsClosed : List ℕ → Type 0
IsClosed bytes = behind_bytes Place.Running bytes ≡ Place.Running

-- ---- what is written
-- what was appended are pieces that lead from running text to running text
pub record IsMarkedUp (old new : List ℕ) : Type 0 where
  pub pieces : List Piece
  pub bytes : new ≡ old ++ bytes_of pieces
  pub closed : behind_pieces Place.Running pieces ≡ Place.Running

-- What was appended is a page: the fixed head, which has its style sheet and ends in the body, and then such pieces. So no text of the model's stands in the head.
abbrev pub IsPage : List ℕ → List ℕ → Type 0
IsPage old new = IsMarkedUp (old ++ HEAD.now) new

-- Where pieces lead from running text to running text, going through the bytes of any front of them, byte by byte, leads where the front does. So no text opens or closes a tag, whatever its bytes. The head leads from running text to running text too.
pub record MarkupLaw : Type 0 where
  pub head : IsClosed HEAD.now
  pub fronts : (front back : List Piece) → behind_pieces Place.Running (front ++ back) ≡ Place.Running → behind_bytes Place.Running (bytes_of front) ≡ behind_pieces Place.Running front

-- what the code's pieces are
abbrev pub piece_shown : Written → Piece
piece_shown (Written.Fixed text) = Piece.Fixed text.now
piece_shown (Written.Text text) = Piece.Text text.now
piece_shown (Written.Number q) = Piece.Number q
piece_shown (Written.Whole z) = Piece.Whole z
piece_shown (Written.Count n) = Piece.Count n

-- ---- the session by which a page is written
-- it is that of a program, after some commands
pub record IsSessionOf (first : Program) (session : HistoryValue) : Type 0 where
  pub before : List Command
  pub at : session ≡ session_at first before
