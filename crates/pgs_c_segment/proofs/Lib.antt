pub mod NumbersTold
