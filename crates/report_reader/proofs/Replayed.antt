-- The session in which a report is read stands where the commands of whole entries bring it.
use Rattle.std.proofs.Common.{◌≡◌, sym, ap, ◌∙◌, [], ◌∷◌, ◌++◌}
use Rattle.report_text.specs.History.{HistoryValue}
use Rattle.report_text.specs.declared.report.Command.{Command}
use Rattle.report_text.specs.Session.{session_at, Rewinds}
use Rattle.report_reader.specs.Entries.{IsTaken, StaysOn}

-- a session of which nothing was edited yet stands where no commands bring it
pub fresh_at : (session : HistoryValue) → session.formers ≡ [] → session ≡ session_at session.model []
fresh_at session e = ap (λ fs. record { model = session.model; formers = fs }) e

-- taken back, all is as it was
pub rewound : (old mid new : HistoryValue) → old.formers ≡ [] → StaysOn old mid → Rewinds mid new → new ≡ old
rewound old mid new e stays rewinds =
    let at = fresh_at old e in
    let now = stays old.model [] at in
    rewinds old.model now.0 now.1 ∙ sym at

pub stays_same : (session : HistoryValue) → StaysOn session session
stays_same session first before at = (before, at)

-- a command more
pub stays_more : (start old new : HistoryValue) (c : Command) → StaysOn start old → IsTaken old c new → StaysOn start new
stays_more start old new c stays taken first before at =
    let now = stays first before at in
    (now.0 ++ c ∷ [], taken.1.goes_on first now.0 now.1)
