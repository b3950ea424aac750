-- The moduli are prime moduli, each by one computed test over all numbers below it.
use Rattle.std.specs.Prelude.{refl}
use Rattle.std.proofs.Common.{lit<, lit≤}
use Rattle.prime.specs.Moduli.{PrimeModulus}
use Rattle.prime.specs.InverseTables.{prime_modulus}

pub prime_4093 : PrimeModulus 4093 12 1059
prime_4093 = prime_modulus 4093 12 1059 refl (lit≤ tt) (lit≤ tt) (lit< tt) (lit< tt) refl tt

pub prime_1021 : PrimeModulus 1021 10 374
prime_1021 = prime_modulus 1021 10 374 refl (lit≤ tt) (lit≤ tt) (lit< tt) (lit< tt) refl tt
