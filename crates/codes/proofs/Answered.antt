-- The check has one answer.
use Rattle.std.proofs.Common.{◌≡◌, ℕ, List, Ok, Err, sym, refl, ap, subst, inl, inr, arith}
use Rattle.faults.specs.declared.Fault.{Fault}
use Rattle.faults.specs.declared.Fault.TheVariants.{Malformed}
use Rattle.codes.specs.Checked.{Refused, many_symbols, many_codes, malformed, WellFormed}
use Rattle.codes.specs.Counting.{Limited}
use Rattle.codes.specs.Theorems.{OneAnswer}
use Rattle.codes.proofs.Faulty.{one_fault}

pub one_refusal : (n : ℕ) (cs : List ℕ) (f g : Fault) → Refused n cs f → Refused n cs g → f ≡ g
one_refusal n cs f g (many_symbols a) (many_symbols b) = refl
one_refusal n cs f g (many_symbols a) (many_codes b c) = absurd (omega arith)
one_refusal n cs f g (many_symbols a) (malformed b c d) = absurd (omega arith)
one_refusal n cs f g (many_codes a b) (many_symbols c) = absurd (omega arith)
one_refusal n cs f g (many_codes a b) (many_codes c d) = refl
one_refusal n cs f g (many_codes a b) (malformed c d e) = absurd (omega arith)
one_refusal n cs f g (malformed a b c) (many_symbols d) = absurd (omega arith)
one_refusal n cs f g (malformed a b c) (many_codes d e) = absurd (omega arith)
one_refusal n cs f g (malformed a b c) (malformed d e h) = ap Malformed (one_fault c h)

pub not_refused : (n : ℕ) (cs : List ℕ) (f : Fault) → WellFormed n cs → Refused n cs f → ⊥
not_refused n cs f w (many_symbols a) = omega (arith, w.few)
not_refused n cs f w (many_codes a b) = omega (arith, w.short)
not_refused n cs f w (malformed a b c) = c.none w.tree w.codes

-- what is past a limit is refused for that
pub limited_refused : (n : ℕ) (cs : List ℕ) (f : Fault) → Limited n cs (Err f) → Refused n cs f
limited_refused n cs f (inl h) = subst (Refused n cs) (sym h.1) (many_symbols h.0)
limited_refused n cs f (inr h) = subst (Refused n cs) (sym h.2) (many_codes h.0 h.1)

pub one_answer : OneAnswer
one_answer n cs (Ok u) (Ok v) p q = refl
one_answer n cs (Ok u) (Err g) p q = absurd (not_refused n cs g p q)
one_answer n cs (Err f) (Ok v) p q = absurd (not_refused n cs f q p)
one_answer n cs (Err f) (Err g) p q = ap Err (one_refusal n cs f g p q)
