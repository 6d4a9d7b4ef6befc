-- Bytes written behind those that a buffer holds already: what stood before stays, and so does what stands behind.
use Rattle.std.specs.Prelude.{ℕ, ◌+◌, ◌≡◌, List, ◌++◌, length, take, drop}

-- the buffer at entry and at exit, where the bytes were written, and up to where they stand
pub record Appended (entry exit : List ℕ) (at : ℕ) (bytes : List ℕ) (end : ℕ) : Type 0 where
  pub ends : end ≡ at + length bytes
  pub long : length exit ≡ length entry
  pub front : take end exit ≡ take at entry ++ bytes
  pub behind : drop end exit ≡ drop end entry
