pub mod Magic
