-- Lemmas: on one item more of a list, on what maps hash by, on numbers of names, on the elements of a sound
-- recording, on rows cut from a list, on numbers that are copied, on parts of a list.
pub mod OneMore
pub mod Keys
pub mod NameNumbers
pub mod Elements
pub mod Cuts
pub mod Copying
pub mod Parts
