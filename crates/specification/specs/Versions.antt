-- The two versions of the texts of traces and of certificates.
pub data Version : Type 0 where
  one : Version
  two : Version
