-- A log with one record more.
use Rattle.std.proofs.Common.{◌≡◌, ℕ, zero, suc, ◌+◌, ◌/◌, ◌%◌, List, [], ◌∷◌, ◌++◌, sym, ap, ◌∙◌, add-one, add-zero, append-nil, append_assoc, arith}
use Rattle.std.proofs.lemmas.List.Concat.{flat_map-append}
use Rattle.std.specs.List.{flat_map, range_with_len}
use Rattle.sym_top.specs.Making.{line_at, made_line, state_at, next_state, time_at}

-- One number more.
range_with_len_more : (first count : ℕ) →
    range_with_len first (suc count) ≡ range_with_len first count ++ (first + count) ∷ []
range_with_len_more first zero = ap (λ last. last ∷ []) (sym (add-zero first))
range_with_len_more first (suc count) =
    ap (λ rest. first ∷ rest) (range_with_len_more (first + 1) count
    ∙ ap (λ last. range_with_len (first + 1) count ++ last ∷ []) (omega arith))

-- The lines of one record more.
lines_more : (line : ℕ → List ℕ) (count : ℕ) →
    flat_map line (range_with_len 1 (count + 1))
    ≡ flat_map line (range_with_len 1 count) ++ line (count + 1)
lines_more line count =
    let before : List ℕ = range_with_len 1 count in
    ap (λ n. flat_map line (range_with_len 1 n)) (add-one count)
    ∙ ap (flat_map line) (range_with_len_more 1 count)
    ∙ flat_map-append line before ((1 + count) ∷ [])
    ∙ ap (λ text. flat_map line before ++ text) (append-nil (line (1 + count)))
    ∙ ap (λ n. flat_map line before ++ line n) (omega arith)

-- The generator's state, the time and the text, with one record more.
pub state_more : (seed count old new : ℕ) →
    old ≡ state_at seed count → new ≡ next_state old → new ≡ state_at seed (count + 1)
state_more seed count old new before here =
    here ∙ ap next_state before ∙ ap (state_at seed) (sym (add-one count))

pub time_more : (seed count state old : ℕ) →
    state ≡ state_at seed (count + 1) → old ≡ time_at seed count →
    old + state / 65536 % 8 ≡ time_at seed (count + 1)
time_more seed count state old drawn before =
    ap (λ time. time + state / 65536 % 8) before
    ∙ ap (λ s. time_at seed count + s / 65536 % 8) (drawn ∙ ap (state_at seed) (add-one count))
    ∙ ap (time_at seed) (sym (add-one count))

pub text_more : (seed count state time : ℕ) (header old new : List ℕ) →
    state ≡ state_at seed (count + 1) → time ≡ time_at seed (count + 1) →
    old ≡ header ++ flat_map (line_at seed) (range_with_len 1 count) →
    new ≡ old ++ made_line time ((state / 65536 / 8) % 10) →
    new ≡ header ++ flat_map (line_at seed) (range_with_len 1 (count + 1))
text_more seed count state time header old new drawn timed before here =
    let lines : List ℕ = flat_map (line_at seed) (range_with_len 1 count) in
    here
    ∙ ap (λ text. text ++ made_line time ((state / 65536 / 8) % 10)) before
    ∙ ap (λ t. (header ++ lines) ++ made_line t ((state / 65536 / 8) % 10)) timed
    ∙ ap (λ s. (header ++ lines) ++ made_line (time_at seed (count + 1)) ((s / 65536 / 8) % 10)) drawn
    ∙ append_assoc header lines (line_at seed (count + 1))
    ∙ ap (λ text. header ++ text) (sym (lines_more (line_at seed) count))
