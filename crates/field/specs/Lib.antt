-- What a field and its tables are.
pub mod Laws
pub mod Polynomials
pub mod Tables
pub mod Residues
pub mod Pairs
pub mod Figures
-- Proofs of the laws: an implementation gives them as its ghost members, which can name specs/ alone.
pub mod Fields
pub mod Modular
pub mod Moduli
pub mod Computed
pub mod PairsLemmas
