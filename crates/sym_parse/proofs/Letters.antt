-- Names are UTF-8.
use Rattle.std.proofs.Common.{◌≡◌, ℕ, ◌<◌, Bool, true, false, ◌&&◌, ◌||◌, ◌⊎◌, not, nat_le, List, [], ◌∷◌, length, refl, arith, inl, inr}
use Rattle.std.proofs.lemmas.Bool.Decides.{nat_tests}
use Rattle.std.proofs.lemmas.List.Elements.{All-cons, All-nil}
use Rattle.std.proofs.lemmas.Str.{IsUtf8-from_ascii}
use Rattle.std.proofs.lemmas.Str.Ascii.{IsAscii-from_all}
use Rattle.std.specs.List.{list_all}
use Rattle.std.specs.Prelude.{All}
use Rattle.std.specs.Str.{IsUtf8}
use Rattle.sym_base.specs.Names.{is_name, is_name_part, is_keyword, starts_name}
use Rattle.sym_base.specs.Limits.{max_name_bytes}

pub both : (a b : Bool) → (a && b) ≡ true → (a ≡ true) × (b ≡ true)
both true b h = (refl, h)
both false b h = cc

pub either : (a b : Bool) → (a || b) ≡ true → (a ≡ true) ⊎ (b ≡ true)
either true b h = inl refl
either false b h = inr h

part-ascii : (b : ℕ) → is_name_part b ≡ true → b < 128
part-ascii b h = grind (arith, nat_tests)

all-ascii : (bs : List ℕ) → list_all is_name_part bs ≡ true → All (λ b. b < 128) bs
all-ascii [] h = All-nil (λ b. b < 128)
all-ascii (b ∷ bs) h =
    let p : (is_name_part b ≡ true) × (list_all is_name_part bs ≡ true) = both (is_name_part b) (list_all is_name_part bs) h in
    All-cons (λ b. b < 128) b bs (part-ascii b p.0) (all-ascii bs p.1)

pub name-utf8 : (bs : List ℕ) → is_name bs ≡ true → IsUtf8 bs
unfolding is_name
name-utf8 bs h =
    let few = both (starts_name bs && list_all is_name_part bs && nat_le (length bs) max_name_bytes) (not (is_keyword bs)) h in
    let parts = both (starts_name bs && list_all is_name_part bs) (nat_le (length bs) max_name_bytes) few.0 in
    let each = both (starts_name bs) (list_all is_name_part bs) parts.0 in
    IsUtf8-from_ascii bs (IsAscii-from_all bs (all-ascii bs each.1))
