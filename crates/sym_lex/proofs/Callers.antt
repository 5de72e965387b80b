-- What callers may know of the tokens of a text.
use Rattle.std.proofs.Common.{◌≡◌, ◌≢◌, ℕ, pos, ◌+◌, ◌-◌, ◌<◌, ◌≤◌, true, false, ◌&&◌, nat_lt, nat_le, is_some, List, [], ◌∷◌, ◌++◌, length, take, drop, Result, Ok, Err, IfOk, IfErr, refl, sym, ap, subst, ◌∙◌, arith, append_assoc, length-append}
use Rattle.std.proofs.lemmas.Bool.Decides.{nat_tests}
use Rattle.std.proofs.lemmas.Int.{ints}
use Rattle.std.proofs.lemmas.Str.{is_utf8-from_IsUtf8}
use Rattle.std.proofs.Math.Seq.{take-append_seam, drop-append_seam}
use Rattle.std.specs.List.{list_all}
use Rattle.std.specs.Str.{is_utf8}
use Rattle.std.specs.Str.Parse.{digits_value}
use Rattle.sym_base.specs.Lawful.{is_lawful_text, is_unsigned}
use Rattle.sym_base.specs.Names.{is_keyword, is_name}
use Rattle.sym_base.specs.Limits.{max_name_bytes, num_max}
use Rattle.sym_lex.specs.declared.error.LexErr.{LexErr}
use Rattle.sym_lex.specs.declared.error.LexErr.TheVariants.{Fault, NoMemory}
use Rattle.sym_lex.specs.declared.token.Token.{Token}
use Rattle.sym_lex.specs.declared.token.TokenKind.{TokenKind}
use Rattle.sym_lex.specs.declared.keyword.Keyword.{Keyword}
use Rattle.sym_lex.specs.Keywords.{keyword_text}
use Rattle.sym_lex.specs.Letters.{is_in_line}
use Rattle.sym_lex.specs.Lexing.{Answers, IfFault, lexed}
use Rattle.sym_lex.specs.Rules.{IsToken, name, word, number, string, sign, IsNameRun, LexResult, with_token, Reads, ended, blank, comment, token, fault}
use Rattle.sym_lex.specs.Terminals.{are_in_order, are_sound, is_sound, starts_past, suits_kind}
use Rattle.sym_lex.proofs.Agreement.{are-lexed, reads-lexed, token-goes}
use Rattle.sym_lex.proofs.Bytes.{join, le-true, lt-true}
use Rattle.sym_lex.proofs.Words.{keyword-none, keyword-test}

name-suits : (bytes rest : List ℕ) → IsNameRun bytes rest → length bytes ≤ max_name_bytes → ((k : Keyword) → bytes ≢ keyword_text k) → is_name bytes ≡ true
unfolding is_name
name-suits bytes rest h few other =
    let none : is_keyword bytes ≡ false = keyword-test bytes ∙ ap is_some (keyword-none bytes other) in
    rw (h.starts, h.run.each, le-true (length bytes) max_name_bytes few, none) refl

number-suits : (n : ℕ) → n ≤ num_max → is_unsigned (pos n) ≡ true
unfolding is_unsigned
number-suits n h = grind (arith, ints, nat_tests)

text-suits : (text : List ℕ) → list_all is_in_line text ≡ true → is_utf8 text ≡ true → is_lawful_text text ≡ true
unfolding is_lawful_text
text-suits text line utf8 = join (list_all is_in_line text) (is_utf8 text) line utf8

pub token-suits : (bytes rest : List ℕ) (k : TokenKind) → IsToken bytes rest k → suits_kind bytes k ≡ true
token-suits bytes rest _ (name h few other) = name-suits bytes rest h few other
token-suits bytes rest _ (word k h same) = refl
token-suits bytes rest _ (number h small apart) = number-suits (digits_value 10 bytes) small
token-suits bytes rest _ (string text same line utf8) = text-suits text line (is_utf8-from_IsUtf8 text utf8)
token-suits bytes rest _ (sign s h) = refl

-- The bytes of a token that stands between these.
pub bytes-between : (front bytes rest : List ℕ) (at : ℕ) → length front ≡ at → take (at + length bytes - at) (drop at (front ++ (bytes ++ rest))) ≡ bytes
bytes-between front bytes rest at e =
    let n : at + length bytes - at ≡ length bytes = omega arith in
    let d : drop at (front ++ (bytes ++ rest)) ≡ bytes ++ rest = ap (λ m. drop m (front ++ (bytes ++ rest))) (sym e) ∙ drop-append_seam front (bytes ++ rest) in
    rw (n, d) (take-append_seam bytes rest)

abbrev AllSound : List ℕ → LexResult → Type 0
AllSound text (Ok tokens) = are_sound text tokens ≡ true
AllSound text (Err f) = Unit {0}

one-sound : (front bytes rest : List ℕ) (at : ℕ) (k : TokenKind) → length front ≡ at → IsToken bytes rest k → is_sound (front ++ (bytes ++ rest)) (record { kind = k; at = at; end = at + length bytes }) ≡ true
one-sound front bytes rest at k e is =
    let some : 0 < length bytes = (token-goes bytes rest k is).some in
    let text : List ℕ = front ++ (bytes ++ rest) in
    let within : at + length bytes ≤ length text = omega (arith, length-append front (bytes ++ rest), length-append bytes rest) in
    let suits : suits_kind (take (at + length bytes - at) (drop at text)) k ≡ true = ap (λ b. suits_kind b k) (bytes-between front bytes rest at e) ∙ token-suits bytes rest k is in
    join (nat_lt at (at + length bytes) && nat_le (at + length bytes) (length text)) (suits_kind (take (at + length bytes - at) (drop at text)) k)
    (join (nat_lt at (at + length bytes)) (nat_le (at + length bytes) (length text)) (lt-true at (at + length bytes) (omega arith)) (le-true (at + length bytes) (length text) within))
    suits

sound-before : (text : List ℕ) (t : Token) (o : LexResult) → is_sound text t ≡ true → AllSound text o → AllSound text (with_token t o)
sound-before text t (Ok tokens) s h = join (is_sound text t) (are_sound text tokens) s h
sound-before text t (Err f) s h = tt

pub reads-sound : (at : ℕ) (text : List ℕ) (o : LexResult) → Reads at text o → (front : List ℕ) → length front ≡ at → AllSound (front ++ text) o
reads-sound _ _ _ (ended at) front e = refl
reads-sound _ _ _ (blank at b rest o g h) front e =
    subst (λ t. AllSound t o) (append_assoc front (b ∷ []) rest) (reads-sound (at + 1) rest o h (front ++ b ∷ []) (omega (arith, length-append front (b ∷ []))))
reads-sound _ _ _ (comment at b body rest o g run h) front e =
    subst (λ t. AllSound t o) (append_assoc front (b ∷ body) rest) (reads-sound (at + 1 + length body) rest o h (front ++ b ∷ body) (omega (arith, length-append front (b ∷ body))))
reads-sound _ _ _ (token at bytes rest k o is h) front e =
    sound-before (front ++ (bytes ++ rest)) (record { kind = k; at = at; end = at + length bytes }) o (one-sound front bytes rest at k e is)
    (subst (λ t. AllSound t o) (append_assoc front bytes rest) (reads-sound (at + length bytes) rest o h (front ++ bytes) (omega (arith, length-append front bytes))))
reads-sound _ _ _ (fault at text f is) front e = tt

abbrev InOrder : ℕ → LexResult → Type 0
InOrder at (Ok tokens) = (starts_past at tokens ≡ true) × (are_in_order tokens ≡ true)
InOrder at (Err f) = Unit {0}

earlier : (low high : ℕ) (tokens : List Token) → low ≤ high → starts_past high tokens ≡ true → starts_past low tokens ≡ true
earlier low high [] le h = refl
earlier low high (t ∷ tokens) le h = grind (arith, nat_tests)

order-later : (low high : ℕ) (o : LexResult) → low ≤ high → InOrder high o → InOrder low o
order-later low high (Ok tokens) le h = (earlier low high tokens le h.0, h.1)
order-later low high (Err f) le h = tt

order-before : (at : ℕ) (t : Token) (o : LexResult) → at ≡ t.at → InOrder t.end o → InOrder at (with_token t o)
order-before at t (Ok tokens) e h = (le-true at t.at (omega arith), join (starts_past t.end tokens) (are_in_order tokens) h.0 h.1)
order-before at t (Err f) e h = tt

pub reads-in_order : (at : ℕ) (text : List ℕ) (o : LexResult) → Reads at text o → InOrder at o
reads-in_order _ _ _ (ended at) = (refl, refl)
reads-in_order _ _ _ (blank at b rest o g h) = order-later at (at + 1) o (omega arith) (reads-in_order (at + 1) rest o h)
reads-in_order _ _ _ (comment at b body rest o g run h) = order-later at (at + 1 + length body) o (omega arith) (reads-in_order (at + 1 + length body) rest o h)
reads-in_order _ _ _ (token at bytes rest k o is h) =
    order-before at (record { kind = k; at = at; end = at + length bytes }) o refl (reads-in_order (at + length bytes) rest o h)
reads-in_order _ _ _ (fault at text f is) = tt

-- The clauses of the lexer.
pub tokens-read : {V : Type 0} (view : V → List Token) (text : List ℕ) (r : Result V LexErr) → Answers view r (lexed text) → IfOk r (λ v. Reads 0 text (Ok (view v)))
tokens-read view text (Ok v) h = subst (Reads 0 text) h (reads-lexed text)
tokens-read view text (Err e) h = tt

pub fault-read : {V : Type 0} (view : V → List Token) (text : List ℕ) (r : Result V LexErr) → Answers view r (lexed text) → IfErr r (λ e. IfFault e (λ f. Reads 0 text (Err f)))
fault-read view text (Ok v) h = tt
fault-read view text (Err (Fault f)) h = subst (Reads 0 text) h (reads-lexed text)
fault-read view text (Err NoMemory) h = tt

pub only-read : {V : Type 0} (view : V → List Token) (text : List ℕ) (r : Result V LexErr) → Answers view r (lexed text) → (o : LexResult) → Reads 0 text o → Answers view r o
only-read view text r h o reads = subst (Answers view r) (are-lexed 0 text o reads) h

pub tokens-sound : {V : Type 0} (view : V → List Token) (text : List ℕ) (r : Result V LexErr) → Answers view r (lexed text) → IfOk r (λ v. are_sound text (view v) ≡ true)
tokens-sound view text (Ok v) h =
    let s : AllSound text (Ok (view v)) = subst (AllSound text) h (reads-sound 0 text (lexed text) (reads-lexed text) [] refl) in s
tokens-sound view text (Err e) h = tt

pub tokens-in_order : {V : Type 0} (view : V → List Token) (text : List ℕ) (r : Result V LexErr) → Answers view r (lexed text) → IfOk r (λ v. are_in_order (view v) ≡ true)
tokens-in_order view text (Ok v) h =
    let s : InOrder 0 (Ok (view v)) = subst (InOrder 0) h (reads-in_order 0 text (lexed text) (reads-lexed text)) in s.1
tokens-in_order view text (Err e) h = tt
