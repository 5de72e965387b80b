-- Bytes that are read as a number are text: a number, and the blanks at its ends, are ASCII.
use Rattle.std.proofs.Common.{◌≡◌, ◌∙◌, refl, sym, ap, ℕ, zero, suc, ℤ, pos, ◌<◌, arith, Bool, true, false, nat_le, IsUtf8, get_or, List, [], ◌∷◌, Option, Some, None, Ok, option_map, if◌then◌else◌}
use Rattle.std.proofs.lemmas.Bool.Decides.{nat_tests}
use Rattle.std.proofs.lemmas.List.{reverse-append}
use Rattle.std.proofs.lemmas.List.Folds.{list_all-append}
use Rattle.std.proofs.lemmas.Str.{IsUtf8-from_ascii}
use Rattle.std.specs.Prelude.{◌&&◌, ◌==◌, reverse}
use Rattle.std.specs.Char.{is_ascii, is_ascii_digit}
use Rattle.std.specs.List.{list_all}
use Rattle.std.specs.Str.Parse.{digits_value}
use Rattle.sym_base.specs.Limits.{num_max}
use Rattle.sym_base.specs.declared.values.value.Value.{Value}
use Rattle.sym_base.specs.declared.values.value.Value.TheVariants as value
use Rattle.sym_check.specs.declared.plan.script.EnumPlan.{EnumPlan}
use Rattle.sym_check.specs.declared.plan.script.FieldPlan.{FieldPlan}
use Rattle.sym_check.specs.declared.plan.script.KindPlan.{KindPlan}
use Rattle.sym_check.specs.declared.plan.script.KindPlan.TheVariants as kind
use Rattle.sym_table.specs.declared.bad.BadCause.TheVariants as cause
use Rattle.std.specs.Option.{ok_or}
use Rattle.sym_table.specs.Fields.{default_for, read_field, text_of, unless_given, value_in}
use Rattle.sym_table.specs.Texts.{are_digits, digits_number, drop_blanks, is_blank, negative, number_in, without_blanks}
use Rattle.sym_table.proofs.FieldFacts.{is_text}

both : (a b : Bool) → a ≡ true → b ≡ true → (a && b) ≡ true
both true b e h = h
both false b e h = e

one : (a b : Bool) → (a && b) ≡ true → a ≡ true
one true b h = refl
one false b h = h

other : (a b : Bool) → (a && b) ≡ true → b ≡ true
other true b h = h
other false b h = cc

blank_ascii : (b : ℕ) → is_blank b ≡ true → is_ascii b ≡ true
blank_ascii b h = grind (arith, nat_tests)

digit_ascii : (d : ℕ) → is_ascii_digit d ≡ true → is_ascii d ≡ true
digit_ascii d h = grind (arith, nat_tests)

minus_ascii : (b : ℕ) → (b == 45) ≡ true → is_ascii b ≡ true
minus_ascii b h = grind (arith, nat_tests)

plus_ascii : (b : ℕ) → (b == 43) ≡ true → is_ascii b ≡ true
plus_ascii b h = grind (arith, nat_tests)

below : (b : ℕ) → is_ascii b ≡ true → b < 128
below b h = grind (arith, nat_tests)

digits_ascii : (ds : List ℕ) → list_all is_ascii_digit ds ≡ true → list_all is_ascii ds ≡ true
digits_ascii [] h = refl
digits_ascii (d ∷ ds) h =
    both (is_ascii d) (list_all is_ascii ds)
    (digit_ascii d (one (is_ascii_digit d) (list_all is_ascii_digit ds) h))
    (digits_ascii ds (other (is_ascii_digit d) (list_all is_ascii_digit ds) h))

dropped_one : (b : ℕ) (xs : List ℕ) (t : Bool) → is_blank b ≡ t
    → (list_all is_ascii (drop_blanks xs) ≡ true → list_all is_ascii xs ≡ true)
    → list_all is_ascii (if t then drop_blanks xs else b ∷ xs) ≡ true → list_all is_ascii (b ∷ xs) ≡ true
dropped_one b xs true e rest h = both (is_ascii b) (list_all is_ascii xs) (blank_ascii b e) (rest h)
dropped_one b xs false e rest h = h

dropped : (xs : List ℕ) → list_all is_ascii (drop_blanks xs) ≡ true → list_all is_ascii xs ≡ true
dropped [] h = refl
dropped (b ∷ xs) h = dropped_one b xs (is_blank b) refl (dropped xs) h

reversed : (xs : List ℕ) → list_all is_ascii (reverse xs) ≡ true → list_all is_ascii xs ≡ true
reversed [] h = refl
reversed (x ∷ xs) h =
    let all : (list_all is_ascii (reverse xs) && list_all is_ascii (x ∷ [])) ≡ true =
    sym (list_all-append is_ascii (reverse xs) (x ∷ [])) ∙ ap (list_all is_ascii) (sym (reverse-append (x ∷ []) xs)) ∙ h in
    both (is_ascii x) (list_all is_ascii xs)
    (one (is_ascii x) true (other (list_all is_ascii (reverse xs)) (list_all is_ascii (x ∷ [])) all))
    (reversed xs (one (list_all is_ascii (reverse xs)) (list_all is_ascii (x ∷ [])) all))

around : (text : List ℕ) → list_all is_ascii (without_blanks text) ≡ true → list_all is_ascii text ≡ true
around text h =
    dropped text
    (reversed (drop_blanks text)
    (dropped (reverse (drop_blanks text)) (reversed (drop_blanks (reverse (drop_blanks text))) h)))

are_all : (ds : List ℕ) → are_digits ds ≡ true → list_all is_ascii_digit ds ≡ true
are_all [] e = refl
are_all (d ∷ ds) e = e

digits_read : (ds : List ℕ) (sign : ℕ → ℤ) (x : ℤ) (t : Bool) → are_digits ds ≡ t
    → option_map sign (if t && nat_le (digits_value 10 ds) num_max then Some (digits_value 10 ds) else None) ≡ Some x
    → list_all is_ascii ds ≡ true
digits_read ds sign x true e h = digits_ascii ds (are_all ds e)
digits_read ds sign x false e h = cc

unsigned_read : (b : ℕ) (rest : List ℕ) (x : ℤ) (t : Bool) → (b == 43) ≡ t
    → (if t then option_map pos (digits_number rest) else option_map pos (digits_number (b ∷ rest))) ≡ Some x
    → list_all is_ascii (b ∷ rest) ≡ true
unsigned_read b rest x true e h =
    both (is_ascii b) (list_all is_ascii rest) (plus_ascii b e) (digits_read rest pos x (are_digits rest) refl h)
unsigned_read b rest x false e h = digits_read (b ∷ rest) pos x (are_digits (b ∷ rest)) refl h

signed_read : (b : ℕ) (rest : List ℕ) (x : ℤ) (t : Bool) → (b == 45) ≡ t
    → (if t then option_map negative (digits_number rest) else if b == 43 then option_map pos (digits_number rest) else option_map pos (digits_number (b ∷ rest))) ≡ Some x
    → list_all is_ascii (b ∷ rest) ≡ true
signed_read b rest x true e h =
    both (is_ascii b) (list_all is_ascii rest) (minus_ascii b e) (digits_read rest negative x (are_digits rest) refl h)
signed_read b rest x false e h = unsigned_read b rest x (b == 43) refl h

number_ascii : (text : List ℕ) (x : ℤ) → number_in text ≡ Some x → list_all is_ascii text ≡ true
number_ascii [] x h = refl
number_ascii (b ∷ rest) x h = signed_read b rest x (b == 45) refl h

each : (xs : List ℕ) → list_all is_ascii xs ≡ true → (i : ℕ) → get_or xs i 0 < 128
each [] h zero = omega arith
each [] h (suc i) = omega arith
each (b ∷ xs) h zero = below b (one (is_ascii b) (list_all is_ascii xs) h)
each (b ∷ xs) h (suc i) = each xs (other (is_ascii b) (list_all is_ascii xs) h) i

given : (enums : List EnumPlan) (which : ℕ) (default : Option Value) (text : List ℕ) (x : ℤ) → number_in text ≡ Some x
    → unless_given (default_for default text) (value_in enums which kind.Num text) ≡ Ok (value.Num x)
given enums which default [] x h = cc
given enums which default (b ∷ rest) x h = ap (λ found. ok_or (option_map value.Num found) (cause.Number which)) h

of_kind : (enums : List EnumPlan) (which : ℕ) (default : Option Value) (k : KindPlan) (bytes : List ℕ) (x : ℤ) → k ≡ kind.Num → number_in (without_blanks bytes) ≡ Some x
    → unless_given (default_for default (text_of k bytes)) (value_in enums which k (text_of k bytes)) ≡ Ok (value.Num x)
of_kind enums which default k bytes x e h = rw e (given enums which default (without_blanks bytes) x h)

-- A field of numbers has the number that its bytes say.
pub number_is_read : (enums : List EnumPlan) (which : ℕ) (field : FieldPlan) (bytes : List ℕ) (x : ℤ) → field.kind ≡ kind.Num → number_in (without_blanks bytes) ≡ Some x
    → read_field enums which field bytes ≡ Ok (value.Num x)
number_is_read enums which field bytes x k h =
    let all : list_all is_ascii bytes ≡ true = around bytes (number_ascii (without_blanks bytes) x h) in
    let text : IsUtf8 bytes = IsUtf8-from_ascii bytes (each bytes all) in
    is_text enums which field bytes text ∙ of_kind enums which field.default field.kind bytes x k h
