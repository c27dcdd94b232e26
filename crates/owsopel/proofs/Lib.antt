-- The laws of flat records; a folder for each source file has the proofs of its functions.
mod Laws
