-- The program that is found in a text, or why it has none, is what the relations say.
use Rattle.std.proofs.Common.{◌≡◌, ℕ, ◌<◌, ◌≤◌, nat_le, Bool, true, false, if◌then◌else◌, List, length, Result, Ok, Err, refl, ap, subst, ◌∙◌, arith}
use Rattle.std.proofs.lemmas.Bool.Decides.{nat_tests}
use Rattle.sym_base.specs.declared.limits.TheConstants as limit
use Rattle.sym_base.specs.declared.tree.script.Script.{Script}
use Rattle.sym_base.specs.Trees.{ScriptTree}
use Rattle.sym_lex.specs.declared.token.Token.{Token}
use Rattle.sym_lex.specs.Rules.{LexResult}
use Rattle.sym_lex.specs.Lexing.{lexed}
use Rattle.sym_parse.specs.declared.error.LimitKind.{LimitKind}
use Rattle.sym_parse.specs.declared.error.ParseErr.{ParseErr}
use Rattle.sym_parse.specs.declared.error.ParseErr.TheVariants as parse_error
use Rattle.sym_parse.specs.declared.stop.Stop.TheVariants as stop
use Rattle.sym_parse.specs.Answers.{IsScriptOf, by_tokens, ended, parsed}
use Rattle.sym_parse.specs.Lexemes.{lexemes_of}
use Rattle.sym_parse.specs.Places.{IsUnexpected, IsPassed}
use Rattle.sym_parse.specs.Limits.{most}
use Rattle.sym_parse.specs.Steps.{Parsed}
use Rattle.sym_parse.specs.Parsing.Scripts.{script, start}
use Rattle.sym_parse.specs.Sentences.{IsKeptBy}
use Rattle.sym_parse.proofs.Answering.{parsed-found, parsed-reads, parsed-fault, fault-parsed}
use Rattle.sym_parse.proofs.Expecting.{expected-by, never-script}
use Rattle.sym_parse.proofs.Limiting.{passed-parsed}
use Rattle.sym_parse.proofs.Refusing.{kept, text-unexpected, text-passed}
use Rattle.sym_check.specs.Plan.ScriptPlans.{ScriptPlan}
use Rattle.sym_check.specs.Rules.Scripts.{plan_of}
use Rattle.sym_check.specs.declared.elaborate.error.CheckErr.{CheckErr}
use Rattle.sym_check.proofs.ScriptsAgree.{accepted_planned, planned_accepted, breaks_planned, planned_breaks}
use Rattle.sym_command.specs.declared.place.Place.TheVariants as place
use Rattle.sym_message.specs.declared.refusal.Refusal.{Refusal}
use Rattle.sym_message.specs.declared.refusal.Refusal.TheVariants as refusal
use Rattle.sym_top.specs.Programs.{Program, IsProgram, IsUnparsed, lexical, unexpected, passed, IsNoProgram, too_large, unparsed, broken, planned, program_of, program_in}

over : (n m : ℕ) → m < n → nat_le n m ≡ false
over n m h = grind (arith, nat_tests)

upto : (n m : ℕ) → n ≤ m → nat_le n m ≡ true
upto n m h = grind (arith, nat_tests)

is-over : (n m : ℕ) → nat_le n m ≡ false → m < n
is-over n m e = grind (arith, nat_tests)

is-upto : (n m : ℕ) → nat_le n m ≡ true → n ≤ m
is-upto n m e = grind (arith, nat_tests)

-- ---- reading a text never runs out of memory by definition

tokens-some : (text : List ℕ) (tokens : List Token) (o : Parsed ScriptTree) →
    script most (start (lexemes_of text tokens)) ≡ o →
    ended (length text) tokens o ≡ Err parse_error.NoMemory → ⊥
tokens-some text tokens (Ok read) s e = cc
tokens-some text tokens (Err (stop.Expected left)) s e = cc
tokens-some text tokens (Err (stop.Limit left which)) s e = cc
tokens-some text tokens (Err stop.NoMemory) s e =
    let ls = lexemes_of text tokens in
    subst (λ (o : Parsed ScriptTree). IsKeptBy o (script most (start ls))) s
    (kept most most (λ k. omega arith) ls)

result-some : (text : List ℕ) (r : LexResult) → by_tokens text r ≡ Err parse_error.NoMemory → ⊥
result-some text (Ok tokens) e =
    tokens-some text tokens (script most (start (lexemes_of text tokens))) refl e
result-some text (Err fault) e = cc

parsed-some : (text : List ℕ) → parsed text ≡ Err parse_error.NoMemory → ⊥
unfolding parsed
parsed-some text e = result-some text (lexed text) e

-- ---- where a text can't be read

abbrev refused : ParseErr → Result Script ParseErr
refused why = Err why

abbrev outcome : Type 0
outcome = Result ScriptTree ParseErr

-- Where no token passes a limit, the first place at which no sentence goes on is answered.
unexpected-by : (text : List ℕ) (at : ℕ) (o : outcome) → parsed text ≡ o → IsUnexpected text at →
    ((spot : ℕ) (which : LimitKind) → IsPassed text spot which → ⊥) → o ≡ Err (parse_error.Expected at)
unexpected-by text at (Ok tree) e u none = absurd (never-script text at tree u (parsed-found text tree e))
unexpected-by text at (Err (parse_error.Lex fault)) e u none =
    absurd (expected-by text (refused (parse_error.Lex fault)) (λ n. e) at u)
unexpected-by text at (Err (parse_error.Expected spot)) e u none =
    ap (λ (n : ℕ). Err (parse_error.Expected n)) (expected-by text (refused (parse_error.Expected spot)) (λ n. e) at u)
unexpected-by text at (Err (parse_error.Limit spot which)) e u none = absurd (none spot which (text-passed text spot which e))
unexpected-by text at (Err parse_error.NoMemory) e u none = absurd (parsed-some text e)

never-both : (text : List ℕ) (at spot : ℕ) (which : LimitKind) → parsed text ≡ Err (parse_error.Expected at) → IsPassed text spot which → ⊥
never-both text at spot which e p = let f : parsed text ≡ Err (parse_error.Limit spot which) = passed-parsed text spot which p in cc

unparsed-parsed : (text : List ℕ) (why : ParseErr) → IsUnparsed text why → parsed text ≡ Err why
unparsed-parsed text _ (lexical fault reads) = parsed-fault text fault reads
unparsed-parsed text _ (unexpected at is none) = unexpected-by text at (parsed text) refl is none
unparsed-parsed text _ (passed at which is) = passed-parsed text at which is

pub parsed-unparsed : (text : List ℕ) (why : ParseErr) → parsed text ≡ Err why → IsUnparsed text why
parsed-unparsed text (parse_error.Lex fault) e = lexical fault (fault-parsed text fault e)
parsed-unparsed text (parse_error.Expected at) e =
    unexpected at (text-unexpected text at e) (λ spot which p. never-both text at spot which e p)
parsed-unparsed text (parse_error.Limit at which) e = passed at which (text-passed text at which e)
parsed-unparsed text parse_error.NoMemory e = absurd (parsed-some text e)

-- ---- what is, is found

pub program-found : (text : List ℕ) (program : Program) → IsProgram text program →
    program_in text ≡ Ok program
unfolding program_in
program-found text program is =
    rw (upto (length text) limit.SCRIPT_MAX is.small)
    (ap program_of (parsed-reads text program.tree is.script)
    ∙ ap (planned program.tree) (accepted_planned program.tree program.plan is.accepted))

pub none-found : (text : List ℕ) (why : Refusal) → IsNoProgram text why → program_in text ≡ Err why
unfolding program_in
none-found text _ (too_large large) = rw (over (length text) limit.SCRIPT_MAX large) refl
none-found text _ (unparsed why small is) =
    rw (upto (length text) limit.SCRIPT_MAX small) (ap program_of (unparsed-parsed text why is))
none-found text _ (broken tree why small is breaks) =
    rw (upto (length text) limit.SCRIPT_MAX small)
    (ap program_of (parsed-reads text tree is) ∙ ap (planned tree) (breaks_planned tree why breaks))

-- ---- what is found, is

abbrev pub Reading : List ℕ → Result Program Refusal → Type 0
Reading text (Ok program) = IsProgram text program
Reading text (Err why) = IsNoProgram text why

planned-is : (text : List ℕ) (tree : ScriptTree) (r : Result ScriptPlan CheckErr) →
    length text ≤ limit.SCRIPT_MAX → IsScriptOf text tree → plan_of tree ≡ r → Reading text (planned tree r)
planned-is text tree (Ok plan) small is e =
    record { small = small; script = is; accepted = planned_accepted tree plan e }
planned-is text tree (Err why) small is e = broken tree why small is (planned_breaks tree why e)

parsed-is : (text : List ℕ) (r : Result ScriptTree ParseErr) → length text ≤ limit.SCRIPT_MAX →
    parsed text ≡ r → Reading text (program_of r)
parsed-is text (Ok tree) small e =
    planned-is text tree (plan_of tree) small (parsed-found text tree e) refl
parsed-is text (Err why) small e = unparsed why small (parsed-unparsed text why e)

sized-is : (text : List ℕ) (b : Bool) → nat_le (length text) limit.SCRIPT_MAX ≡ b →
    Reading text (if b then program_of (parsed text) else Err (refusal.TooLarge place.Script))
sized-is text true e = parsed-is text (parsed text) (is-upto (length text) limit.SCRIPT_MAX e) refl
sized-is text false e = too_large (is-over (length text) limit.SCRIPT_MAX e)

pub reading : (text : List ℕ) → Reading text (program_in text)
unfolding program_in
reading text = sized-is text (nat_le (length text) limit.SCRIPT_MAX) refl
