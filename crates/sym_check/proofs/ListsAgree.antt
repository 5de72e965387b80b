-- Declarations one after the other agree with what is so of them and with their first broken rule,
-- where each does.
use Rattle.std.proofs.Common.{◌≡◌, refl, subst, ℕ, ◌+◌, ◌⊎◌, inl, inr, List, [], ◌∷◌, Result}
use Rattle.sym_check.specs.declared.elaborate.error.CheckErr.{CheckErr}
use Rattle.sym_check.specs.Rules.Scopes.{Scope}
use Rattle.sym_check.specs.Rules.InOrder.{Each, none, one_more, FirstBroken, here, further, Planned, each}
use Rattle.sym_check.proofs.Agreements.{Agrees, in_words, only_value, then_agrees, then_made}

-- A declaration's plan, with the scope after it, or its fault.
abbrev pub Plans : {A B : Type 0} → (Scope → ℕ → A → B → Scope → Type 0) → (Scope → ℕ → A → CheckErr → Type 0) → (Scope → ℕ → A → Result (Planned B) CheckErr) → Type 0
Plans {A} {B} One Broken one = (s : Scope) (n : ℕ) (a : A) → Agrees (λ (p : Planned B). One s n a p.plan p.scope) (Broken s n a) (one s n a)

module _ {A B : Type 0} (One : Scope → ℕ → A → B → Scope → Type 0) (Broken : Scope → ℕ → A → CheckErr → Type 0) where
  none_ends : (s : Scope) (n : ℕ) (bs : List B) (later : Scope) → Each One s n [] bs later → ◌≡◌ {A = Planned (List B)} (record { plan = []; scope = s }) (record { plan = bs; scope = later })
  none_ends _ _ _ _ (none s n) = refl

  none_breaks : (s : Scope) (n : ℕ) (f : CheckErr) → FirstBroken One Broken s n [] f → ⊥
  none_breaks s n f b = elim b [ ]

  -- One more, taken apart.
  abbrev More : Scope → ℕ → A → List A → Planned (List B) → Type 0
  More s n a rest p = (b : Planned B) × One s n a b.plan b.scope × ((bs : Planned (List B)) × Each One b.scope (n + 1) rest bs.plan bs.scope × (◌≡◌ {A = Planned (List B)} (record { plan = b.plan ∷ bs.plan; scope = bs.scope }) p))

  more_joined : (s : Scope) (n : ℕ) (a : A) (rest : List A) (p : Planned (List B)) → More s n a rest p → Each One s n (a ∷ rest) p.plan p.scope
  more_joined s n a rest p (b, is, (bs, are, e)) = subst (λ (q : Planned (List B)). Each One s n (a ∷ rest) q.plan q.scope) e (one_more s b.scope bs.scope n a rest b.plan bs.plan is are)

  more_parted : (s : Scope) (n : ℕ) (a : A) (rest : List A) (bs : List B) (later : Scope) → Each One s n (a ∷ rest) bs later → More s n a rest (record { plan = bs; scope = later })
  more_parted _ _ _ _ _ _ (one_more s m later n a rest b bs is are) = (record { plan = b; scope = m }, is, (record { plan = bs; scope = later }, are, refl))

  abbrev Breaking : Scope → ℕ → A → List A → CheckErr → Type 0
  Breaking s n a rest f = Broken s n a f ⊎ ((b : Planned B) × One s n a b.plan b.scope × FirstBroken One Broken b.scope (n + 1) rest f)

  break_joined : (s : Scope) (n : ℕ) (a : A) (rest : List A) (f : CheckErr) → Breaking s n a rest f → FirstBroken One Broken s n (a ∷ rest) f
  break_joined s n a rest f (inl i) = here s n a rest f i
  break_joined s n a rest f (inr (b, is, i)) = further s b.scope n a rest b.plan f is i

  break_parted : (s : Scope) (n : ℕ) (a : A) (rest : List A) (f : CheckErr) → FirstBroken One Broken s n (a ∷ rest) f → Breaking s n a rest f
  break_parted _ _ _ _ _ (here s n a rest f i) = inl i
  break_parted _ _ _ _ _ (further s m n a rest b f is i) = inr (record { plan = b; scope = m }, is, i)

  pub each_agrees : (one : Scope → ℕ → A → Result (Planned B) CheckErr) → Plans One Broken one → (s : Scope) (n : ℕ) (items : List A) → Agrees (λ (p : Planned (List B)). Each One s n items p.plan p.scope) (FirstBroken One Broken s n items) (each one s n items)
  each_agrees one h s n [] = only_value _ (none s n) (λ p i. none_ends s n p.plan p.scope i) (none_breaks s n)
  each_agrees one h s n (a ∷ rest) =
      in_words (then_agrees (h s n a) (λ b is. then_made (λ (bs : Planned (List B)). record { plan = b.plan ∷ bs.plan; scope = bs.scope }) (each_agrees one h b.scope (n + 1) rest)))
      (λ p. more_joined s n a rest p)
      (λ p. more_parted s n a rest p.plan p.scope)
      (λ f. break_joined s n a rest f)
      (λ f. break_parted s n a rest f)
