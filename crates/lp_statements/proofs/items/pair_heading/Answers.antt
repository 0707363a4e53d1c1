use Rattle.std.proofs.Common.{None, ap, sym, ◌∙◌}
use Rattle.text_fields.specs.Tokens.{lexeme_of}
use Rattle.lp_statements.specs.Items.{tokens_at, pair_heading}
use Rattle.lp_statements.proofs.Pieces.{looked, next_at, tokens_next, place_next, past_next, colon_found, pair_not_word, pair_other_line, pair_none, pair_colon, pair_words}
use Rattle.lp_statements.proofs.items.pair_heading.Goals as goal

pub returns-in_default : goal.returns-in_default
unfolding pair_heading
returns-in_default c = ap (pair_heading (lexeme_of c.args.bytes.now c.args.token)) (looked c.args.bytes.now c.args.after None c.requires.after c.in_default.ensures)

pub returns-then-not-is_word : goal.returns-then-not-is_word
returns-then-not-is_word c =
    let at = looked c.args.bytes.now c.args.after _ c.requires.after c.in-Some.ensures in
    pair_not_word (lexeme_of c.args.bytes.now c.args.token) (lexeme_of c.args.bytes.now c.in-Some.next) (tokens_at c.args.bytes.now c.in-Some.past) _ (tokens_next c.args.bytes.now c.args.after.place c.in-Some.next c.in-Some.past at) (sym c.if-not-is_word.ensures)

pub returns-then-next-token : goal.returns-then-next-token
returns-then-next-token c =
    let at = looked c.args.bytes.now c.args.after _ c.requires.after c.in-Some.ensures in
    pair_other_line (lexeme_of c.args.bytes.now c.args.token) (lexeme_of c.args.bytes.now c.in-Some.next) (tokens_at c.args.bytes.now c.in-Some.past) _ (tokens_next c.args.bytes.now c.args.after.place c.in-Some.next c.in-Some.past at) c.if-next-token.true

pub returns-in_default-pair_of : goal.returns-in_default-pair_of
returns-in_default-pair_of c =
    let at = looked c.args.bytes.now c.args.after _ c.requires.after c.in-Some.ensures in
    pair_none (lexeme_of c.args.bytes.now c.args.token) (lexeme_of c.args.bytes.now c.in-Some.next) (tokens_at c.args.bytes.now c.in-Some.past) _ (tokens_next c.args.bytes.now c.args.after.place c.in-Some.next c.in-Some.past at) cc

pub look_at-last-requires-clause-place : goal.look_at-last-requires-clause-place
look_at-last-requires-clause-place c = place_next c.args.bytes.now c.args.after.place c.in-Some.next c.in-Some.past (looked c.args.bytes.now c.args.after _ c.requires.after c.in-Some.ensures)

pub returns-then-is_colon : goal.returns-then-is_colon
returns-then-is_colon c =
    let past = c.look_at-last.result.place in
    let at = next_at c.args.bytes.now c.args.after c.in-Some.next c.in-Some.past past c.requires.after c.in-Some.ensures c.look_at-last.ensures.place in
    pair_colon (lexeme_of c.args.bytes.now c.args.token) (lexeme_of c.args.bytes.now c.in-Some.next) (tokens_at c.args.bytes.now past) _ (tokens_next c.args.bytes.now c.args.after.place c.in-Some.next past at)
    (sym (c.if-is_colon.ensures ∙ colon_found c.args.bytes.now c.look_at-last.result c.look_at-last.ensures.look))

pub returns : goal.returns
returns c =
    let past = c.look_at-last.result.place in
    let at = next_at c.args.bytes.now c.args.after c.in-Some.next c.in-Some.past past c.requires.after c.in-Some.ensures c.look_at-last.ensures.place in
    let words = pair_words (lexeme_of c.args.bytes.now c.args.token) (lexeme_of c.args.bytes.now c.in-Some.next) (tokens_at c.args.bytes.now past) _ (tokens_next c.args.bytes.now c.args.after.place c.in-Some.next past at) (sym c.if-not-is_word.ensures) c.if-next-token.false
    (sym (c.if-is_colon.ensures ∙ colon_found c.args.bytes.now c.look_at-last.result c.look_at-last.ensures.look)) in
    (cc (words, c.in-Some-pair_of.ensures), past_next c.args.bytes.now c.args.after.place c.in-Some.next past at, c.look_at-last.ensures.look)
