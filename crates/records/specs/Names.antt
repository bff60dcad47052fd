-- The names of each kind's words in the order of the paper's table "Words": the values of a list, taken in that order, are those of the words so
-- named, and a record is written as the list of its words in that order, with zeros in the places that the kind does not fill.
-- Assumes nothing.
use Rattle.std.specs.Prelude.{List, [], ◌∷◌, ◌≡◌, refl, ℤ, pos}
use Rattle.records.specs.declared.kinds.Kind.TheVariants.{One, Two, Three, Four, Five, Even, Odd, Fourteen}
use Rattle.records.specs.declared.named.Record.TheVariants.{One as One', Two as Two', Three as Three', Four as Four', Five as Five', Even as Even', Odd as Odd', Fourteen as Fourteen'}
use Rattle.records.specs.Records.{list_of, record_of}

pub record Names : Type 0 where
  -- string 1: P1, tk, x velocity, x acceleration, x
  pub one : (p1 tk xvel xacc x : ℤ) (more : List ℤ)
      → record_of One (p1 ∷ tk ∷ xvel ∷ xacc ∷ x ∷ more) ≡ One' (record { p1 = p1; tk = tk; xvel = xvel; xacc = xacc; x = x })
  pub one_list : (p1 tk xvel xacc x : ℤ)
      → list_of (One' (record { p1 = p1; tk = tk; xvel = xvel; xacc = xacc; x = x })) ≡ p1 ∷ tk ∷ xvel ∷ xacc ∷ x ∷ pos 0 ∷ pos 0 ∷ pos 0 ∷ []
  -- string 2: B, P2, tb, y velocity, y acceleration, y
  pub two : (b p2 tb yvel yacc y : ℤ) (more : List ℤ)
      → record_of Two (b ∷ p2 ∷ tb ∷ yvel ∷ yacc ∷ y ∷ more) ≡ Two' (record { b = b; p2 = p2; tb = tb; yvel = yvel; yacc = yacc; y = y })
  pub two_list : (b p2 tb yvel yacc y : ℤ)
      → list_of (Two' (record { b = b; p2 = p2; tb = tb; yvel = yvel; yacc = yacc; y = y })) ≡ b ∷ p2 ∷ tb ∷ yvel ∷ yacc ∷ y ∷ pos 0 ∷ pos 0 ∷ []
  -- string 3: P3, gamma, P, l, z velocity, z acceleration, z
  pub three : (p3 gamma p l zvel zacc z : ℤ) (more : List ℤ)
      → record_of Three (p3 ∷ gamma ∷ p ∷ l ∷ zvel ∷ zacc ∷ z ∷ more) ≡ Three' (record { p3 = p3; gamma = gamma; p = p; l = l; zvel = zvel; zacc = zacc; z = z })
  pub three_list : (p3 gamma p l zvel zacc z : ℤ)
      → list_of (Three' (record { p3 = p3; gamma = gamma; p = p; l = l; zvel = zvel; zacc = zacc; z = z })) ≡ p3 ∷ gamma ∷ p ∷ l ∷ zvel ∷ zacc ∷ z ∷ pos 0 ∷ []
  -- string 4: tau, delta tau, E, P4, FT, NT, n, M
  pub four : (tau dtau e p4 ft nt n m : ℤ) (more : List ℤ)
      → record_of Four (tau ∷ dtau ∷ e ∷ p4 ∷ ft ∷ nt ∷ n ∷ m ∷ more) ≡ Four' (record { tau = tau; dtau = dtau; e = e; p4 = p4; ft = ft; nt = nt; n = n; m = m })
  pub four_list : (tau dtau e p4 ft nt n m : ℤ)
      → list_of (Four' (record { tau = tau; dtau = dtau; e = e; p4 = p4; ft = ft; nt = nt; n = n; m = m })) ≡ tau ∷ dtau ∷ e ∷ p4 ∷ ft ∷ nt ∷ n ∷ m ∷ []
  -- string 5: NA, tau c, N4, tau GPS, l
  pub five : (na tauc n4 taugps l : ℤ) (more : List ℤ)
      → record_of Five (na ∷ tauc ∷ n4 ∷ taugps ∷ l ∷ more) ≡ Five' (record { na = na; tauc = tauc; n4 = n4; taugps = taugps; l = l })
  pub five_list : (na tauc n4 taugps l : ℤ)
      → list_of (Five' (record { na = na; tauc = tauc; n4 = n4; taugps = taugps; l = l })) ≡ na ∷ tauc ∷ n4 ∷ taugps ∷ l ∷ pos 0 ∷ pos 0 ∷ pos 0 ∷ []
  -- even 6..14: C, MA, nA, tau A, lambda, delta i, epsilon
  pub even : (c ma na taua lambda di epsilon : ℤ) (more : List ℤ)
      → record_of Even (c ∷ ma ∷ na ∷ taua ∷ lambda ∷ di ∷ epsilon ∷ more) ≡ Even' (record { c = c; ma = ma; na = na; taua = taua; lambda = lambda; di = di; epsilon = epsilon })
  pub even_list : (c ma na taua lambda di epsilon : ℤ)
      → list_of (Even' (record { c = c; ma = ma; na = na; taua = taua; lambda = lambda; di = di; epsilon = epsilon })) ≡ c ∷ ma ∷ na ∷ taua ∷ lambda ∷ di ∷ epsilon ∷ pos 0 ∷ []
  -- odd 7..15: omega, t lambda, delta T, its rate, H, l
  pub odd : (ω tlambda dt dtrate h l : ℤ) (more : List ℤ)
      → record_of Odd (ω ∷ tlambda ∷ dt ∷ dtrate ∷ h ∷ l ∷ more) ≡ Odd' (record { omega = ω; tlambda = tlambda; dt = dt; dtrate = dtrate; h = h; l = l })
  pub odd_list : (ω tlambda dt dtrate h l : ℤ)
      → list_of (Odd' (record { omega = ω; tlambda = tlambda; dt = dt; dtrate = dtrate; h = h; l = l })) ≡ ω ∷ tlambda ∷ dt ∷ dtrate ∷ h ∷ l ∷ pos 0 ∷ pos 0 ∷ []
  -- frame 5, string 14: B1, B2, KP
  pub fourteen : (b1 b2 kp : ℤ) (more : List ℤ)
      → record_of Fourteen (b1 ∷ b2 ∷ kp ∷ more) ≡ Fourteen' (record { b1 = b1; b2 = b2; kp = kp })
  pub fourteen_list : (b1 b2 kp : ℤ)
      → list_of (Fourteen' (record { b1 = b1; b2 = b2; kp = kp })) ≡ b1 ∷ b2 ∷ kp ∷ pos 0 ∷ pos 0 ∷ pos 0 ∷ pos 0 ∷ pos 0 ∷ []

pub names : Names
unfolding list_of record_of
names =
    record {
      one = λ p1 tk xvel xacc x more. refl;
      one_list = λ p1 tk xvel xacc x. refl;
      two = λ b p2 tb yvel yacc y more. refl;
      two_list = λ b p2 tb yvel yacc y. refl;
      three = λ p3 gamma p l zvel zacc z more. refl;
      three_list = λ p3 gamma p l zvel zacc z. refl;
      four = λ tau dtau e p4 ft nt n m more. refl;
      four_list = λ tau dtau e p4 ft nt n m. refl;
      five = λ na tauc n4 taugps l more. refl;
      five_list = λ na tauc n4 taugps l. refl;
      even = λ c ma na taua lambda di epsilon more. refl;
      even_list = λ c ma na taua lambda di epsilon. refl;
      odd = λ ω tlambda dt dtrate h l more. refl;
      odd_list = λ ω tlambda dt dtrate h l. refl;
      fourteen = λ b1 b2 kp more. refl;
      fourteen_list = λ b1 b2 kp. refl;
    }
