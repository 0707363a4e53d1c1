-- The sections of the MPS format, and the order of their headers.
use Rattle.std.specs.Prelude.{ℕ, Bool, true, false, cond, List, codes, Option, Some, None}
use Rattle.std.specs.Str.{bytes_eq}
pub use Rattle.mps_lines.specs.declared.sections.Section.{Section}
pub use Rattle.mps_lines.specs.declared.sections.Section.TheVariants.{Start, Name, Sense, Rows, Columns, Sides, Ranges, Bounds, End}

-- the section that a header's first word names
abbrev pub heading_word : List ℕ → Option Section
heading_word word =
    cond (bytes_eq word (codes "NAME")) (Some Name)
    (cond (bytes_eq word (codes "OBJSENSE")) (Some Sense)
    (cond (bytes_eq word (codes "ROWS")) (Some Rows)
    (cond (bytes_eq word (codes "COLUMNS")) (Some Columns)
    (cond (bytes_eq word (codes "RHS")) (Some Sides)
    (cond (bytes_eq word (codes "RANGES")) (Some Ranges)
    (cond (bytes_eq word (codes "BOUNDS")) (Some Bounds)
    (cond (bytes_eq word (codes "ENDATA")) (Some End) None)))))))

-- whether the second section may come right after the first: ROWS and COLUMNS must be there, all others but ENDATA may be left out
abbrev pub may_follow : Section → Section → Bool
may_follow Start Name = true
may_follow Start Sense = true
may_follow Start Rows = true
may_follow Name Sense = true
may_follow Name Rows = true
may_follow Sense Rows = true
may_follow Rows Columns = true
may_follow Columns Sides = true
may_follow Columns Ranges = true
may_follow Columns Bounds = true
may_follow Columns End = true
may_follow Sides Ranges = true
may_follow Sides Bounds = true
may_follow Sides End = true
may_follow Ranges Bounds = true
may_follow Ranges End = true
may_follow Bounds End = true
may_follow _ _ = false

-- whether two sections are one
abbrev pub is_section : Section → Section → Bool
is_section Start Start = true
is_section Name Name = true
is_section Sense Sense = true
is_section Rows Rows = true
is_section Columns Columns = true
is_section Sides Sides = true
is_section Ranges Ranges = true
is_section Bounds Bounds = true
is_section End End = true
is_section _ _ = false
