-- What contracts of this crate see: the verdict of the definitions, how much was looked at for it, and what is
-- known before.
pub mod VerdictOf
pub mod AllLooks
pub mod Sifted
