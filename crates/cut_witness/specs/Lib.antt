pub mod Certificate
